-- The terms that are listed are those that stand in the term, each where it stands, and none of them has more terms in it.
use Rattle.std.specs.Prelude.{List, [], ◌∷◌, ◌++◌, ◌⊎◌, ◌≡◌, refl, ℕ, ◌<◌, ◌≤◌}
use Rattle.std.proofs.Common.{inl, inr, ⊎_elim, arith}
use Rattle.std.proofs.Math.Option.{Option, none, some}
use Rattle.program.specs.Layout.{Types}
use Rattle.program.specs.Terms.{Term, boolean, number, variable, function, letrec, call, if, check, enable, sign, test, binary, post, size, Every}
use Rattle.program.proofs.Laws.Trees.{every_here}
use Rattle.typing.specs.Places.{Placed, placed, children_in, Among, among_first, among_later}
use Rattle.typing.proofs.Laws.Places.{EachOf}
use Rattle.typing.specs.Faults.{Within, here, in_function, in_letrec_body, in_letrec_rest, in_call_function, in_call_argument, in_if_condition, in_if_yes, in_if_no, in_check, in_enable, in_sign, in_test_yes, in_test_no, in_left, in_right, in_post}
use Rattle.subterms.specs.Smallest.{subterms}

-- the terms in one that may be absent
abbrev pub subterms_in : Types → Option Placed → List Placed
subterms_in T none = []
subterms_in T (some (placed Γ n c)) = subterms T Γ n c

-- ---- two lists, one after the other
left : {x : Placed} {l : List Placed} (m : List Placed) → Among x l → Among x (l ++ m)
left m among_first = among_first
left m (among_later k) = among_later (left m k)

right : {x : Placed} (l : List Placed) {m : List Placed} → Among x m → Among x (l ++ m)
right [] k = k
right (y ∷ l) k = among_later (right l k)

split : {x : Placed} (l : List Placed) {m : List Placed} → Among x (l ++ m) → Among x l ⊎ Among x m
split [] k = inr k
split (y ∷ l) among_first = inl among_first
split (y ∷ l) (among_later k) = ⊎_elim (λ h. inl (among_later h)) (λ h. inr h) (split l k)

module _ (T : Types) where
  pub within_listed : {Δ : List ℕ} {m : ℕ} {d : Term} {Γ : List ℕ} {n : ℕ} {c : Term} → Within T Δ m d Γ n c → Among (placed Δ m d) (subterms T Γ n c)
  within_listed {c = boolean at b} here = among_first
  within_listed {c = number at k} here = among_first
  within_listed {c = variable at i} here = among_first
  within_listed {c = function at ty body} here = among_first
  within_listed {c = letrec at ty body rest} here = among_first
  within_listed {c = call at f a} here = among_first
  within_listed {c = if at c y o} here = among_first
  within_listed {c = check at p c} here = among_first
  within_listed {c = enable at p c} here = among_first
  within_listed {c = sign at k c} here = among_first
  within_listed {c = test at p y o} here = among_first
  within_listed {c = binary at op a b} here = among_first
  within_listed {c = post at ch g c} here = among_first
  within_listed (in_function w) = among_later (within_listed w)
  within_listed (in_letrec_body w) = among_later (left _ (within_listed w))
  within_listed (in_letrec_rest {Γ = Θ} {n = k} {ty = ty} {body = body} w) = among_later (right (subterms T (T.arg ty ∷ ty ∷ Θ) k body) (within_listed w))
  within_listed (in_call_function w) = among_later (left _ (within_listed w))
  within_listed (in_call_argument {Γ = Θ} {n = k} {f = f} w) = among_later (right (subterms T Θ k f) (within_listed w))
  within_listed (in_if_condition {Γ = Θ} {n = k} {y = y} {o = o} w) = among_later (left (subterms T Θ k o) (left (subterms T Θ k y) (within_listed w)))
  within_listed (in_if_yes {Γ = Θ} {n = k} {c = c} {o = o} w) = among_later (left (subterms T Θ k o) (right (subterms T Θ k c) (within_listed w)))
  within_listed (in_if_no {Γ = Θ} {n = k} {c = c} {y = y} w) = among_later (right (subterms T Θ k c ++ subterms T Θ k y) (within_listed w))
  within_listed (in_check w) = among_later (within_listed w)
  within_listed (in_enable w) = among_later (within_listed w)
  within_listed (in_sign w) = among_later (within_listed w)
  within_listed (in_test_yes w) = among_later (left _ (within_listed w))
  within_listed (in_test_no {Γ = Θ} {n = k} {y = y} w) = among_later (right (subterms T Θ k y) (within_listed w))
  within_listed (in_left w) = among_later (left _ (within_listed w))
  within_listed (in_right {Γ = Θ} {n = k} {a = a} w) = among_later (right (subterms T Θ k a) (within_listed w))
  within_listed (in_post w) = among_later (within_listed w)

  -- where a term of the list stands
  pub record Standing (x : Placed) (Γ : List ℕ) (n : ℕ) (c : Term) : Type 0 where
    pub bindings : List ℕ
    pub principal : ℕ
    pub part : Term
    pub is : x ≡ placed bindings principal part
    pub within : Within T bindings principal part Γ n c

  self : {Γ : List ℕ} {n : ℕ} {c : Term} → Standing (placed Γ n c) Γ n c
  self {Γ} {n} {c} = record { bindings = Γ; principal = n; part = c; is = refl; within = here }

  -- what stands in a part stands in the term
  up : {x : Placed} {Γ Δ : List ℕ} {n m : ℕ} {c d : Term} → ((Θ : List ℕ) (k : ℕ) (e : Term) → Within T Θ k e Δ m d → Within T Θ k e Γ n c)
      → Standing x Δ m d → Standing x Γ n c
  up f h = record {
    bindings = h.bindings;
    principal = h.principal;
    part = h.part;
    is = h.is;
    within = f h.bindings h.principal h.part h.within;
  }

  pub listed_within : {x : Placed} (Γ : List ℕ) (n : ℕ) (c : Term) → Among x (subterms T Γ n c) → Standing x Γ n c
  listed_within Γ n (boolean at b) among_first = self
  listed_within Γ n (boolean at b) (among_later m) = elim m [ ]
  listed_within Γ n (number at k) among_first = self
  listed_within Γ n (number at k) (among_later m) = elim m [ ]
  listed_within Γ n (variable at i) among_first = self
  listed_within Γ n (variable at i) (among_later m) = elim m [ ]
  listed_within Γ n (function at ty body) among_first = self
  listed_within Γ n (function at ty body) (among_later m) = up (λ _ _ _ w. in_function w) (listed_within (T.arg ty ∷ Γ) n body m)
  listed_within Γ n (letrec at ty body rest) among_first = self
  listed_within Γ n (letrec at ty body rest) (among_later m) =
      ⊎_elim (λ h. up (λ _ _ _ w. in_letrec_body w) (listed_within (T.arg ty ∷ ty ∷ Γ) n body h))
      (λ h. up (λ _ _ _ w. in_letrec_rest w) (listed_within (ty ∷ Γ) n rest h)) (split (subterms T (T.arg ty ∷ ty ∷ Γ) n body) m)
  listed_within Γ n (call at f a) among_first = self
  listed_within Γ n (call at f a) (among_later m) =
      ⊎_elim (λ h. up (λ _ _ _ w. in_call_function w) (listed_within Γ n f h)) (λ h. up (λ _ _ _ w. in_call_argument w) (listed_within Γ n a h))
      (split (subterms T Γ n f) m)
  listed_within Γ n (if at c y o) among_first = self
  listed_within Γ n (if at c y o) (among_later m) =
      ⊎_elim
      (λ h. ⊎_elim (λ k. up (λ _ _ _ w. in_if_condition w) (listed_within Γ n c k)) (λ k. up (λ _ _ _ w. in_if_yes w) (listed_within Γ n y k))
      (split (subterms T Γ n c) h))
      (λ h. up (λ _ _ _ w. in_if_no w) (listed_within Γ n o h)) (split (subterms T Γ n c ++ subterms T Γ n y) m)
  listed_within Γ n (check at p c) among_first = self
  listed_within Γ n (check at p c) (among_later m) = up (λ _ _ _ w. in_check w) (listed_within Γ n c m)
  listed_within Γ n (enable at p c) among_first = self
  listed_within Γ n (enable at p c) (among_later m) = up (λ _ _ _ w. in_enable w) (listed_within Γ n c m)
  listed_within Γ n (sign at k c) among_first = self
  listed_within Γ n (sign at k c) (among_later m) = up (λ _ _ _ w. in_sign w) (listed_within Γ k c m)
  listed_within Γ n (test at p y o) among_first = self
  listed_within Γ n (test at p y o) (among_later m) =
      ⊎_elim (λ h. up (λ _ _ _ w. in_test_yes w) (listed_within Γ n y h)) (λ h. up (λ _ _ _ w. in_test_no w) (listed_within Γ n o h))
      (split (subterms T Γ n y) m)
  listed_within Γ n (binary at op a b) among_first = self
  listed_within Γ n (binary at op a b) (among_later m) =
      ⊎_elim (λ h. up (λ _ _ _ w. in_left w) (listed_within Γ n a h)) (λ h. up (λ _ _ _ w. in_right w) (listed_within Γ n b h)) (split (subterms T Γ n a) m)
  listed_within Γ n (post at ch g c) among_first = self
  listed_within Γ n (post at ch g c) (among_later m) = up (λ _ _ _ w. in_post w) (listed_within Γ n c m)

  -- ---- what stands in a term has no more terms in it
  pub within_size : {Δ : List ℕ} {m : ℕ} {d : Term} {Γ : List ℕ} {n : ℕ} {c : Term} → Within T Δ m d Γ n c → size d ≤ size c
  within_size here = omega arith
  within_size (in_function w) = omega (arith, within_size w)
  within_size (in_letrec_body w) = omega (arith, within_size w)
  within_size (in_letrec_rest w) = omega (arith, within_size w)
  within_size (in_call_function w) = omega (arith, within_size w)
  within_size (in_call_argument w) = omega (arith, within_size w)
  within_size (in_if_condition w) = omega (arith, within_size w)
  within_size (in_if_yes w) = omega (arith, within_size w)
  within_size (in_if_no w) = omega (arith, within_size w)
  within_size (in_check w) = omega (arith, within_size w)
  within_size (in_enable w) = omega (arith, within_size w)
  within_size (in_sign w) = omega (arith, within_size w)
  within_size (in_test_yes w) = omega (arith, within_size w)
  within_size (in_test_no w) = omega (arith, within_size w)
  within_size (in_left w) = omega (arith, within_size w)
  within_size (in_right w) = omega (arith, within_size w)
  within_size (in_post w) = omega (arith, within_size w)

  -- ---- what stands in a part stands in the whole
  pub within_trans : {Θ Δ : List ℕ} {k m : ℕ} {e d : Term} {Γ : List ℕ} {n : ℕ} {c : Term} → Within T Θ k e Δ m d → Within T Δ m d Γ n c → Within T Θ k e Γ n c
  within_trans w here = w
  within_trans w (in_function v) = in_function (within_trans w v)
  within_trans w (in_letrec_body v) = in_letrec_body (within_trans w v)
  within_trans w (in_letrec_rest v) = in_letrec_rest (within_trans w v)
  within_trans w (in_call_function v) = in_call_function (within_trans w v)
  within_trans w (in_call_argument v) = in_call_argument (within_trans w v)
  within_trans w (in_if_condition v) = in_if_condition (within_trans w v)
  within_trans w (in_if_yes v) = in_if_yes (within_trans w v)
  within_trans w (in_if_no v) = in_if_no (within_trans w v)
  within_trans w (in_check v) = in_check (within_trans w v)
  within_trans w (in_enable v) = in_enable (within_trans w v)
  within_trans w (in_sign v) = in_sign (within_trans w v)
  within_trans w (in_test_yes v) = in_test_yes (within_trans w v)
  within_trans w (in_test_no v) = in_test_no (within_trans w v)
  within_trans w (in_left v) = in_left (within_trans w v)
  within_trans w (in_right v) = in_right (within_trans w v)
  within_trans w (in_post v) = in_post (within_trans w v)

  -- ---- a child stands in its term, and has fewer terms in it
  pub record ChildOf (y : Placed) (Γ : List ℕ) (n : ℕ) (c : Term) : Type 0 where
    pub stands : Standing y Γ n c
    pub fewer : size stands.part < size c

  child : {Δ Γ : List ℕ} {m n : ℕ} {d c : Term} → Within T Δ m d Γ n c → size d < size c → ChildOf (placed Δ m d) Γ n c
  child {Δ} {m = m} {d = d} w h = record { stands = record { bindings = Δ; principal = m; part = d; is = refl; within = w }; fewer = h }

  pub children_of_lem : (Γ : List ℕ) (n : ℕ) (c : Term) → EachOf (λ y. ChildOf y Γ n c) (children_in T Γ n c)
  children_of_lem Γ n (boolean at b) = tt
  children_of_lem Γ n (number at k) = tt
  children_of_lem Γ n (variable at i) = tt
  children_of_lem Γ n (function at ty body) = (child (in_function here) (omega arith), tt)
  children_of_lem Γ n (letrec at ty body rest) = (child (in_letrec_body here) (omega arith), (child (in_letrec_rest here) (omega arith), tt))
  children_of_lem Γ n (call at f a) = (child (in_call_function here) (omega arith), (child (in_call_argument here) (omega arith), tt))
  children_of_lem Γ n (if at c y o) =
      (child (in_if_condition here) (omega arith), (child (in_if_yes here) (omega arith), (child (in_if_no here) (omega arith), tt)))
  children_of_lem Γ n (check at p c) = (child (in_check here) (omega arith), tt)
  children_of_lem Γ n (enable at p c) = (child (in_enable here) (omega arith), tt)
  children_of_lem Γ n (sign at m c) = (child (in_sign here) (omega arith), tt)
  children_of_lem Γ n (test at p y o) = (child (in_test_yes here) (omega arith), (child (in_test_no here) (omega arith), tt))
  children_of_lem Γ n (binary at op a b) = (child (in_left here) (omega arith), (child (in_right here) (omega arith), tt))
  children_of_lem Γ n (post at ch g c) = (child (in_post here) (omega arith), tt)

  -- ---- what every term of a tree has, each that stands in it has
  pub within_every : (Q : Term → Type 0) {Δ : List ℕ} {m : ℕ} {d : Term} {Γ : List ℕ} {n : ℕ} {c : Term} → Within T Δ m d Γ n c → Every Q c → Q d
  within_every Q {d = d} here h = every_here Q d h
  within_every Q (in_function w) h = within_every Q w h.1
  within_every Q (in_letrec_body w) h = within_every Q w h.1
  within_every Q (in_letrec_rest w) h = within_every Q w h.2
  within_every Q (in_call_function w) h = within_every Q w h.1
  within_every Q (in_call_argument w) h = within_every Q w h.2
  within_every Q (in_if_condition w) h = within_every Q w h.1
  within_every Q (in_if_yes w) h = within_every Q w h.2
  within_every Q (in_if_no w) h = within_every Q w h.3
  within_every Q (in_check w) h = within_every Q w h.1
  within_every Q (in_enable w) h = within_every Q w h.1
  within_every Q (in_sign w) h = within_every Q w h.1
  within_every Q (in_test_yes w) h = within_every Q w h.1
  within_every Q (in_test_no w) h = within_every Q w h.2
  within_every Q (in_left w) h = within_every Q w h.1
  within_every Q (in_right w) h = within_every Q w h.2
  within_every Q (in_post w) h = within_every Q w h.1
