-- The search is never stuck: a term that needs the privilege and is no cause has a child that may be followed and needs it. By cases over the term: its
-- needs come from the latent set, the privilege that it names or the one that guards it, which a cause has, or from a child's. A test takes the privilege
-- that it names out of its yes-branch's, so that the no-branch has it.
use Rattle.std.specs.Prelude.{Bool, not, cond, ◌&&◌, List, [], ◌∷◌, ◌⊎◌, ◌≡◌, ℕ}
use Rattle.std.proofs.Math.Bool.{true, false}
use Rattle.std.proofs.Common.{true≢false, ◌∙◌, eqb-true, eq-eqb}
use Rattle.std.proofs.lemmas.Bool.{false≢true}
use Rattle.std.proofs.Math.Logic.{⊎_elim}
use Rattle.std.proofs.Math.Option.{Option, none, some}
use Rattle.std.proofs.Math.Path.{refl, sym, ap}
use Rattle.std.proofs.Math.Dec.{eqb}
use Rattle.privileges.specs.Booleans.{or_cases, and_left}
use Rattle.privileges.specs.Sets.{has, union, insert, remove, subset}
use Rattle.privileges.specs.Laws.{has_none, has_union, has_insert, has_remove, remove_⊆}
use Rattle.program.specs.Layout.{Types}
use Rattle.program.specs.Terms.{Term, boolean, number, variable, function, letrec, call, if, check, enable, sign, test, binary, post, contains}
use Rattle.typing.specs.Subtyping.{subtype, wider}
use Rattle.typing.specs.Rules.{lookup_type, remove_authorised, post_needs}
use Rattle.typing.specs.Checking.{Judgement, typed, fault, ◌next◌, require, variable_type, joined, body_fits, infer}
use Rattle.typing.specs.Places.{Placed, placed, Among, among_first, among_later}
use Rattle.chains.specs.Explaining.{needing, in_latent, needs, is_cause, followed}

-- ---- a set that has the privilege, by what it is made of
module _ (p : ℕ) where
  union_has : (a b : ℕ) → has p (union a b) ≡ true → (has p a ≡ true) ⊎ (has p b ≡ true)
  union_has a b e = or_cases (has p a) (has p b) (sym (has_union p a b) ∙ e)

  insert_has : (q N : ℕ) → eqb q p ≡ false → has p (insert q N) ≡ true → has p N ≡ true
  insert_has q N f e =
      ⊎_elim (λ h. absurd (true≢false (sym (eq-eqb q p (sym (eqb-true p q h))) ∙ f))) (λ h. h)
      (or_cases (eqb p q) (has p N) (sym (has_insert p q N) ∙ e))

  -- what a guard that is another adds
  guarded_has : (g : Option ℕ) (N : ℕ) → contains p g ≡ false → has p (post_needs g N) ≡ true → has p N ≡ true
  guarded_has none N f e = e
  guarded_has (some q) N f e = insert_has q N f e

  none_has : {P : Type 0} → has p 0 ≡ true → P
  none_has e = absurd (false≢true (sym (has_none p) ∙ e))

  removed_has : {P : Type 0} (q N : ℕ) → eqb q p ≡ true → has p (remove q N) ≡ true → P
  removed_has q N f e =
      let g : not (eqb p q) ≡ true = and_left (not (eqb p q)) (has p N) (sym (has_remove p q N) ∙ e) in
      absurd (false≢true (sym (ap not (eq-eqb p q (sym (eqb-true q p f)))) ∙ g))

  authorised_has : (A : ℕ → ℕ) (n q N : ℕ) → has p (remove_authorised A n q N) ≡ true → has p N ≡ true
  unfolding remove_authorised
  authorised_has A n q N = go (has q (A n))
    where
      go : (b : Bool) → has p (cond b (remove q N) N) ≡ true → has p N ≡ true
      go true e = (remove_⊆ q N).all p e
      go false e = e

module _ (T : Types) (A : ℕ → ℕ) (p : ℕ) where
  -- one of the list needs the privilege
  pub record SomeNeeds (l : List Placed) : Type 0 where
    pub which : Placed
    pub among : Among which l
    pub needed : needs T A p which ≡ true

  here : {Γ : List ℕ} {n : ℕ} {c : Term} {l : List Placed} {τ N : ℕ} → infer T A Γ n c ≡ typed τ N → has p N ≡ true → SomeNeeds (placed Γ n c ∷ l)
  unfolding needs
  here {Γ} {n} {c} e h = record { which = placed Γ n c; among = among_first; needed = ap (needing p) e ∙ h }

  later : {z : Placed} {l : List Placed} → SomeNeeds l → SomeNeeds (z ∷ l)
  later s = record { which = s.which; among = among_later s.among; needed = s.needed }

  -- where a judgement has the privilege among its needs, so has one of the list
  record Traced (l : List Placed) (j : Judgement) : Type 0 where
    to : needing p j ≡ true → SomeNeeds l

  module _ {l : List Placed} where
    typed_traced : {τ N : ℕ} → (has p N ≡ true → SomeNeeds l) → Traced l (typed τ N)
    typed_traced h = record { to = h }

    next_traced : (j : Judgement) (k : ℕ → ℕ → Judgement) → ((τ N : ℕ) → j ≡ typed τ N → Traced l (k τ N)) → Traced l (j next k)
    next_traced (typed τ N) k h = h τ N refl
    next_traced (fault c at) k h = record { to = λ e. absurd (false≢true e) }

    require_traced : (b : Bool) (cause at : ℕ) {j : Judgement} → (b ≡ true → Traced l j) → Traced l (require b cause at j)
    require_traced true cause at h = h refl
    require_traced false cause at h = record { to = λ e. absurd (false≢true e) }

    body_traced : (at ty τ N : ℕ) {j : Judgement} → (Unit {0} → Traced l j) → Traced l (body_fits T A at ty τ N j)
    body_traced at ty τ N h = require_traced (eqb τ (T.res ty)) 10 at λ _. require_traced (subset N (T.latent ty)) 12 at λ _. h tt

    joined_traced : (at N : ℕ) (o : Option ℕ) → (has p N ≡ true → SomeNeeds l) → Traced l (joined at o N)
    joined_traced at N (some τ) h = record { to = h }
    joined_traced at N none h = record { to = λ e. absurd (false≢true e) }

    variable_traced : (at : ℕ) (o : Option ℕ) → Traced l (variable_type at o)
    variable_traced at (some τ) = record { to = λ e. none_has p e }
    variable_traced at none = record { to = λ e. absurd (false≢true e) }

  -- the branches of a test: the privilege of the test is not among what it takes over from its yes-branch
  test_traced : (Γ : List ℕ) (n q : ℕ) (y o : Term) {τ N ρ M : ℕ} → infer T A Γ n y ≡ typed τ N → infer T A Γ n o ≡ typed ρ M
      → has p (union (remove q N) M) ≡ true → (b : Bool) → eqb q p ≡ b → SomeNeeds (cond b (placed Γ n o ∷ []) (placed Γ n y ∷ placed Γ n o ∷ []))
  test_traced Γ n q y o {N = N} {M = M} e e' h true f = ⊎_elim (λ m. removed_has p q N f m) (λ m. here e' m) (union_has p (remove q N) M h)
  test_traced Γ n q y o {N = N} {M = M} e e' h false f =
      ⊎_elim (λ m. here e ((remove_⊆ q N).all p m)) (λ m. later (here e' m)) (union_has p (remove q N) M h)

  explained_if : (Γ : List ℕ) (n : ℕ) (c : Term) → is_cause T A p (placed Γ n c) ≡ false → Traced (followed T A p (placed Γ n c)) (infer T A Γ n c)
  unfolding infer is_cause followed
  explained_if Γ n (boolean at b) f = typed_traced (none_has p)
  explained_if Γ n (number at k) f = typed_traced (none_has p)
  explained_if Γ n (variable at i) f = variable_traced at (lookup_type Γ i)
  explained_if Γ n (function at ty body) f = next_traced (infer T A (T.arg ty ∷ Γ) n body) _ λ τ N e.
      body_traced at ty τ N λ _. typed_traced (none_has p)
  explained_if Γ n (letrec at ty body rest) f = next_traced (infer T A (T.arg ty ∷ ty ∷ Γ) n body) _ λ τ N e.
      next_traced (infer T A (ty ∷ Γ) n rest) _ λ ρ M e'. body_traced at ty τ N λ _. typed_traced λ h.
      ⊎_elim (λ m. absurd (true≢false (sym m ∙ f))) (λ m. later (here e' m)) (union_has p (T.latent ty) M h)
  explained_if Γ n (call at t a) f = next_traced (infer T A Γ n t) _ λ φ N e. next_traced (infer T A Γ n a) _ λ α M e'.
      require_traced (T.is_fun φ) 24 at λ _. require_traced (subtype T α (T.arg φ)) 25 at λ _. typed_traced λ h.
      ⊎_elim (λ m. absurd (true≢false (sym m ∙ sym (ap (in_latent T p) e) ∙ f)))
      (λ u. ⊎_elim (λ m. here e m) (λ m. later (here e' m)) (union_has p N M u)) (union_has p (T.latent φ) (union N M) h)
  explained_if Γ n (if at c y o) f = next_traced (infer T A Γ n c) _ λ σ N e. next_traced (infer T A Γ n y) _ λ τ M e'. next_traced
      (infer T A Γ n o) _ λ ρ K e''.
      require_traced (eqb σ 0) 10 at λ _. joined_traced at _ (wider T τ ρ) λ h.
      ⊎_elim (λ m. here e m) (λ u. ⊎_elim (λ m. later (here e' m)) (λ m. later (later (here e'' m))) (union_has p M K u)) (union_has p N (union M K) h)
  explained_if Γ n (check at q c) f = next_traced (infer T A Γ n c) _ λ τ N e. typed_traced λ h. here e (insert_has p q N f h)
  explained_if Γ n (enable at q c) f = next_traced (infer T A Γ n c) _ λ τ N e. typed_traced λ h. here e (authorised_has p A n q N h)
  explained_if Γ n (sign at m c) f = next_traced (infer T A Γ m c) _ λ τ N e. require_traced (subset N (A m)) 11 at λ _. typed_traced λ h. here e h
  explained_if Γ n (test at q y o) f = next_traced (infer T A Γ n y) _ λ τ N e. next_traced (infer T A Γ n o) _ λ ρ M e'.
      joined_traced at _ (wider T τ ρ) λ h. test_traced Γ n q y o e e' h (eqb q p) refl
  explained_if Γ n (binary at op a b) f = next_traced (infer T A Γ n a) _ λ τ N e. next_traced (infer T A Γ n b) _ λ ρ M e'.
      require_traced (eqb τ 1 && eqb ρ 1) 10 at λ _. typed_traced λ h. ⊎_elim (λ m. here e m) (λ m. later (here e' m)) (union_has p N M h)
  explained_if Γ n (post at ch g c) f = next_traced (infer T A Γ n c) _ λ τ N e.
      require_traced (eqb τ 1) 10 at λ _. typed_traced λ h. here e (guarded_has p g N f h)

  pub progress : (x : Placed) → needs T A p x ≡ true → is_cause T A p x ≡ false → SomeNeeds (followed T A p x)
  unfolding needs
  progress (placed Γ n c) h f = (explained_if Γ n c f).to h
