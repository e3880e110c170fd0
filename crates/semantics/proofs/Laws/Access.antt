-- The eager and the lazy access control simulate one another.
use Rattle.std.specs.Prelude.{Bool, true, false, cond, ◌&&◌, ◌||◌, List, [], ◌∷◌, ◌≡◌, refl, ℕ, eqb}
use Rattle.std.proofs.Math.Bool.{and-true, and-false}
use Rattle.std.proofs.Common.{sym, ap, ◌∙◌, eqb-true}
use Rattle.privileges.specs.Sets.{has, meet, union, insert}
use Rattle.privileges.specs.Laws.{has_none, has_meet, has_union, has_insert}
use Rattle.program.specs.Terms.{Term, sign, binary, boolean, call, check, enable, function, if, letrec, number, post, test, variable}
use Rattle.program.proofs.Laws.Trees.{every_any, Signed, signed}
use Rattle.semantics.specs.Domains.{standard}
use Rattle.semantics.specs.Values.{Env, Budget}
use Rattle.semantics.specs.Meaning.{Mode, eval_with, eval}
use Rattle.semantics.specs.Access.{Frame, frame, chk, privs, enable_first, lazy_control, Rights, rights, add_authorised, eager_control}
use Rattle.semantics.proofs.Laws.Bodies.{bodies_any}
use Rattle.semantics.proofs.Laws.Agree.{NamesOnly, Simulation, agree}

-- the set that a stack grants has the privileges that it grants
pub privs_chk : (A : ℕ → ℕ) (fs : List Frame) (p : ℕ) → has p (privs A fs) ≡ chk A fs p
privs_chk A [] p = has_none p
privs_chk A (f ∷ fs) p =
    has_meet p (A f.principal) (union f.enabled (privs A fs))
    ∙ (λ i. has p (A f.principal) && has_union p f.enabled (privs A fs) i) ∙ (λ i. has p (A f.principal) && (has p f.enabled || privs_chk A fs p i))

-- the eager state stands for a stack: its signer is that of the first frame, and it holds what the stack grants
pub record StandsForStack (A : ℕ → ℕ) (r : Rights) (fs : List Frame) : Type 0 where
  pub first : Frame
  pub behind : List Frame
  pub is : fs ≡ first ∷ behind
  pub same_signer : r.signer ≡ first.principal
  pub same_grants : (p : ℕ) → has p r.granted ≡ chk A fs p

-- ---- sign: 003's Fact 7.1
swap : (a b : Bool) → (a && b) ≡ (b && (false || a))
swap true true = refl
swap true false = refl
swap false true = refl
swap false false = refl

sign_grants : (A : ℕ → ℕ) (n P : ℕ) (fs : List Frame) → ((p : ℕ) → has p P ≡ chk A fs p) → (p : ℕ) → has p (meet P (A n)) ≡ chk A (frame n 0 ∷ fs) p
sign_grants A n P fs h p = has_meet p P (A n) ∙ swap (has p P) (has p (A n)) ∙ λ i. has p (A n) && (sym (has_none p) i || h p i)

pub stands_sign : (A : ℕ → ℕ) (n : ℕ) (r : Rights) (fs : List Frame) → ((p : ℕ) → has p r.granted ≡ chk A fs p)
    → StandsForStack A (rights n (meet r.granted (A n))) (frame n 0 ∷ fs)
stands_sign A n r fs h = record { first = frame n 0; behind = fs; is = refl; same_signer = refl; same_grants = sign_grants A n r.granted fs h }

-- ---- enable
pub add_authorised_has : (A : ℕ → ℕ) (q n p P : ℕ) → has q (add_authorised A n p P) ≡ (eqb q p && has p (A n) || has q P)
unfolding add_authorised
add_authorised_has A q n p P = go (has p (A n))
  where
    go : (b : Bool) → has q (cond b (insert p P) P) ≡ (eqb q p && b || has q P)
    go true = has_insert q p P ∙ ap (λ (x : Bool). x || has q P) (sym (and-true (eqb q p)))
    go false = ap (λ (x : Bool). x || has q P) (sym (and-false (eqb q p)))

-- q enabled by an enable of p: same = (q is p), a and b are the authority for q and for p, E the frame's set, W what is behind
enabling : (same a b E W : Bool) → (same ≡ true → b ≡ a) → (same && b || a && (E || W)) ≡ (a && ((same || E) || W))
enabling true true b E W h = ap (λ (x : Bool). x || (E || W)) (h refl)
enabling true false b E W h = ap (λ (x : Bool). x || false) (h refl)
enabling false a b E W h = refl

pub stands_enable : (A : ℕ → ℕ) (p : ℕ) (r : Rights) (fs : List Frame) → StandsForStack A r fs
    → StandsForStack A (rights r.signer (add_authorised A r.signer p r.granted)) (enable_first p fs)
stands_enable A p r fs h =
    let f = h.first in
    let gs = h.behind in
    record {
      first = frame f.principal (insert p f.enabled);
      behind = gs;
      is = ap (enable_first p) h.is;
      same_signer = h.same_signer;
      same_grants = λ q.
          add_authorised_has A q r.signer p r.granted
          ∙ (λ i. eqb q p && has p (A (h.same_signer i)) || (h.same_grants q ∙ (λ j. chk A (h.is j) q)) i)
          ∙ enabling (eqb q p) (has q (A f.principal)) (has p (A f.principal)) (has q f.enabled) (chk A gs q)
          (λ e. ap (λ (x : ℕ). has x (A f.principal)) (sym (eqb-true q p e)))
          ∙ (λ i. has q (A f.principal) && (sym (has_insert q p f.enabled) i || chk A gs q))
          ∙ λ i. chk A (enable_first p (sym h.is i)) q;
    }

-- of every privilege
abbrev All : ℕ → Type 0
All p = Unit {0}

pub eager_lazy_simulation : (A : ℕ → ℕ) → Simulation All (eager_control A) (lazy_control A)
eager_lazy_simulation A = record {
  related = λ r fs. StandsForStack A r fs;
  on_sign = λ n r fs h. stands_sign A n r fs h.same_grants;
  on_enable = λ p r fs h. stands_enable A p r fs h;
  same_grants = λ r fs h p _. h.same_grants p;
}

-- At a sign only the granted set matters, so an empty stack is covered too.
pub eager_lazy : (A : ℕ → ℕ) (M : Mode) (depth : ℕ) (c : Term) → Signed c → (r : Rights) (fs : List Frame) → ((p : ℕ) → has p r.granted ≡ chk A fs p)
    → (e : Env) (u : Budget) → eval standard (eager_control A) M depth c r e u ≡ eval standard (lazy_control A) M depth c fs e u
unfolding eval eval_with eager_lazy_simulation
eager_lazy A M k (sign at n c) signed r fs h e u =
    agree All (eager_control A) (lazy_control A) (eager_lazy_simulation A) M k c (every_any all_named c) (rights n (meet r.granted (A n)))
    (frame n 0 ∷ fs) (stands_sign A n r fs h) e (bodies_any (NamesOnly All) all_named e) u
  where
    all_named : (c : Term) → NamesOnly All c
    all_named c p q = tt
eager_lazy A M k (boolean at b) never r fs h e u = elim never [ ]
eager_lazy A M k (number at n) never r fs h e u = elim never [ ]
eager_lazy A M k (variable at i) never r fs h e u = elim never [ ]
eager_lazy A M k (function at ty body) never r fs h e u = elim never [ ]
eager_lazy A M k (letrec at ty body rest) never r fs h e u = elim never [ ]
eager_lazy A M k (call at fun arg) never r fs h e u = elim never [ ]
eager_lazy A M k (if at _ then else) never r fs h e u = elim never [ ]
eager_lazy A M k (check at p inner) never r fs h e u = elim never [ ]
eager_lazy A M k (enable at p inner) never r fs h e u = elim never [ ]
eager_lazy A M k (test at p then else) never r fs h e u = elim never [ ]
eager_lazy A M k (binary at op left right) never r fs h e u = elim never [ ]
eager_lazy A M k (post at channel guard inner) never r fs h e u = elim never [ ]
