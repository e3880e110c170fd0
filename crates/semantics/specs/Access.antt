-- The two access controls, for the sets A n that principal n may use: 003 §2 and its Figures 2 (eager) and 4 (stack inspection).
use Rattle.std.specs.Prelude.{Bool, false, cond, ◌&&◌, ◌||◌, List, [], ◌∷◌, ℕ}
use Rattle.privileges.specs.Sets.{has, meet, union, insert}
use Rattle.semantics.specs.Meaning.{Control}

-- "A frame is a principal and a set of enabled privileges."
pub record Frame : Type 0 where
  pub principal : ℕ
  pub enabled : ℕ

abbrev pub frame : (n E : ℕ) → Frame
frame n E = record { principal = n; enabled = E }

-- "A stack, innermost first, grants p when it has a first frame (n, E), p is in A(n), and p is in E or the frames behind grant it. An empty stack
-- grants nothing." 003's chk(p, S).
abbrev pub chk : (ℕ → ℕ) → List Frame → (p : ℕ) → Bool
chk A [] p = false
chk A (f ∷ fs) p = has p (A f.principal) && (has p f.enabled || chk A fs p)

-- the set of all that a stack grants: 003's privs S
abbrev pub privs : (ℕ → ℕ) → List Frame → ℕ
privs A [] = 0
privs A (f ∷ fs) = meet (A f.principal) (union f.enabled (privs A fs))

-- ---- lazy

-- "enable adds p to the first frame"
abbrev pub enable_first : (p : ℕ) → List Frame → List Frame
enable_first p [] = []
enable_first p (f ∷ fs) = frame f.principal (insert p f.enabled) ∷ fs

-- "The lazy runner walks frames: sign pushes (n, empty)". Figure 4.
abbrev pub lazy_control : (ℕ → ℕ) → Control
lazy_control A = record {
  State = List Frame;
  signs = λ n fs. frame n 0 ∷ fs;
  enables = λ p fs. enable_first p fs;
  grants = λ fs p. chk A fs p;
}

-- ---- eager

-- the signing principal and the granted set P: 003's n and P
pub record Rights : Type 0 where
  pub signer : ℕ
  pub granted : ℕ

abbrev pub rights : (n P : ℕ) → Rights
rights n P = record { signer = n; granted = P }

-- "enable adds p if p is in A of the signing principal": 003's P ⊔n {p}
unfoldable pub add_authorised : (ℕ → ℕ) → (n p P : ℕ) → ℕ
add_authorised A n p P = cond (has p (A n)) (insert p P) P

-- "The eager runner holds the granted set P …: sign makes it the meet of P and A(n)". Figure 2.
abbrev pub eager_control : (ℕ → ℕ) → Control
eager_control A = record {
  State = Rights;
  signs = λ n r. rights n (meet r.granted (A n));
  enables = λ p r. rights r.signer (add_authorised A r.signer p r.granted);
  grants = λ r p. has p r.granted;
}
