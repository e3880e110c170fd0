-- A term's judgement from those of its children: it has a type only if each of them has one, and a fault is that of a child or, where each of them has a
-- type, its own.
use Rattle.std.specs.Prelude.{Bool, true, false, ◌&&◌, List, ◌∷◌, ◌≡◌, ℕ, zero, suc, ◌<◌}
use Rattle.std.proofs.Math.Option.{Option, none, some}
use Rattle.std.proofs.Math.Path.{refl}
use Rattle.std.proofs.Common.{sym, ap, ◌∙◌, subst, arith}
use Rattle.std.proofs.Math.Dec.{eqb}
use Rattle.privileges.specs.Sets.{subset}
use Rattle.program.specs.Layout.{Types}
use Rattle.program.specs.Terms.{Term, boolean, number, variable, function, letrec, call, if, check, enable, sign, test, binary, post, size}
use Rattle.typing.specs.Places.{Placed, placed, number_of, children_in, Among, among_first, among_later}
use Rattle.typing.proofs.Laws.Places.{EachOf, each_among}
use Rattle.typing.specs.Subtyping.{subtype, wider}
use Rattle.typing.specs.Rules.{lookup_type}
use Rattle.typing.specs.Checking.{Judgement, typed, fault, ◌next◌, require, variable_type, joined, body_fits, infer}
use Rattle.typing.specs.Faults.{Within, here, in_function, in_letrec_body, in_letrec_rest, in_call_function, in_call_argument, in_if_condition, in_if_yes, in_if_no, in_check, in_enable, in_sign, in_test_yes, in_test_no, in_left, in_right, in_post}
use Rattle.subterms.proofs.Laws.Subterms.{ChildOf, children_of_lem}
use Rattle.subterms.specs.Claims.{by_rules, judgement_at, HasType, has_type, HasFault, has_fault}

module _ (T : Types) (A : ℕ → ℕ) where
  abbrev pub AllTyped : List Placed → Type 0
  AllTyped l = EachOf (HasType T A) l

  -- what a judgement says of a term with this number and these children
  pub data FaultOrigin (at : ℕ) (l : List Placed) : Judgement → Type 0 where
    well : {τ N : ℕ} → AllTyped l → FaultOrigin at l (typed τ N)
    of_child : {cause place : ℕ} {y : Placed} → Among y l → judgement_at T A y ≡ fault cause place → FaultOrigin at l (fault cause place)
    own : {cause : ℕ} → AllTyped l → by_rules cause ≡ true → FaultOrigin at l (fault cause at)

  module _ {at : ℕ} {l : List Placed} where
    -- a child first
    next_judged : (y : Placed) (k : ℕ → ℕ → Judgement) → Among y l → ((τ N : ℕ) → HasType T A y → FaultOrigin at l (k τ N))
        → FaultOrigin at l (judgement_at T A y next k)
    next_judged y k m h = go (judgement_at T A y) refl
      where
        go : (j : Judgement) → judgement_at T A y ≡ j → FaultOrigin at l (j next k)
        go (typed τ N) e = h τ N (has_type e)
        go (fault cause place) e = of_child m e

    require_judged : (b : Bool) (cause : ℕ) {j : Judgement} → by_rules cause ≡ true → AllTyped l → FaultOrigin at l j → FaultOrigin at l (require b cause at j)
    require_judged true cause r h w = w
    require_judged false cause r h w = own h r

    joined_judged : (o : Option ℕ) (N : ℕ) → AllTyped l → FaultOrigin at l (joined at o N)
    joined_judged none N h = own h refl
    joined_judged (some τ) N h = well h

    variable_judged : (o : Option ℕ) → AllTyped l → FaultOrigin at l (variable_type at o)
    variable_judged none h = own h refl
    variable_judged (some τ) h = well h

    body_judged : (ty τ N : ℕ) {j : Judgement} → AllTyped l → FaultOrigin at l j → FaultOrigin at l (body_fits T A at ty τ N j)
    body_judged ty τ N h w = require_judged (eqb τ (T.res ty)) 10 refl h (require_judged (subset N (T.latent ty)) 12 refl h w)

  pub judged : (Γ : List ℕ) (n : ℕ) (c : Term) → FaultOrigin (number_of c) (children_in T Γ n c) (infer T A Γ n c)
  unfolding infer
  judged Γ n (boolean at b) = well tt
  judged Γ n (number at k) = well tt
  judged Γ n (variable at i) = variable_judged (lookup_type Γ i) tt
  judged Γ n (function at ty body) = next_judged (placed (T.arg ty ∷ Γ) n body) _ among_first λ τ N h.
      body_judged ty τ N (h, tt) (well (h, tt))
  judged Γ n (letrec at ty body rest) = next_judged (placed (T.arg ty ∷ ty ∷ Γ) n body) _ among_first λ τ N h.
      next_judged (placed (ty ∷ Γ) n rest) _ (among_later among_first) λ ρ M g. body_judged ty τ N (h, (g, tt)) (well (h, (g, tt)))
  judged Γ n (call at f a) = next_judged (placed Γ n f) _ among_first λ φ N h. next_judged (placed Γ n a) _ (among_later among_first) λ α M g.
      require_judged (T.is_fun φ) 24 refl (h, (g, tt)) (require_judged (subtype T α (T.arg φ)) 25 refl (h, (g, tt)) (well (h, (g, tt))))
  judged Γ n (if at c y o) = next_judged (placed Γ n c) _ among_first λ σ N h. next_judged (placed Γ n y) _ (among_later among_first) λ τ M g.
      next_judged (placed Γ n o) _ (among_later (among_later among_first)) λ ρ K k.
      require_judged (eqb σ 0) 10 refl (h, (g, (k, tt))) (joined_judged (wider T τ ρ) _ (h, (g, (k, tt))))
  judged Γ n (check at p c) = next_judged (placed Γ n c) _ among_first λ τ N h. well (h, tt)
  judged Γ n (enable at p c) = next_judged (placed Γ n c) _ among_first λ τ N h. well (h, tt)
  judged Γ n (sign at m c) = next_judged (placed Γ m c) _ among_first λ τ N h. require_judged (subset N (A m)) 11 refl (h, tt) (well (h, tt))
  judged Γ n (test at p y o) = next_judged (placed Γ n y) _ among_first λ τ N h. next_judged (placed Γ n o) _ (among_later among_first) λ ρ M g.
      joined_judged (wider T τ ρ) _ (h, (g, tt))
  judged Γ n (binary at op a b) = next_judged (placed Γ n a) _ among_first λ τ N h. next_judged (placed Γ n b) _ (among_later among_first) λ ρ M g.
      require_judged (eqb τ 1 && eqb ρ 1) 10 refl (h, (g, tt)) (well (h, (g, tt)))
  judged Γ n (post at ch g c) = next_judged (placed Γ n c) _ among_first λ τ N h. require_judged (eqb τ 1) 10 refl (h, tt) (well (h, tt))

  -- ---- where a child is refused the term is
  no_type_lem : {y : Placed} {cause at : ℕ} {B : Type 0} → judgement_at T A y ≡ fault cause at → HasType T A y → B
  no_type_lem e (has_type f) = absurd (let z : ◌≡◌ {A = ℕ} 0 1 = cc in omega arith)

  fault_up : {y : Placed} (Γ : List ℕ) (n : ℕ) (c : Term) → Among y (children_in T Γ n c) → HasFault T A y → HasFault T A (placed Γ n c)
  fault_up {y} Γ n c m (has_fault e) = go (infer T A Γ n c) refl (judged Γ n c)
    where
      go : (j : Judgement) → infer T A Γ n c ≡ j → FaultOrigin (number_of c) (children_in T Γ n c) j → HasFault T A (placed Γ n c)
      go (typed τ N) f (well h) = no_type_lem e (each_among (HasType T A) m h)
      go (fault cause at) f w = has_fault f

  pub within_fault : {Δ : List ℕ} {m : ℕ} {d : Term} {Γ : List ℕ} {n : ℕ} {c : Term} → Within T Δ m d Γ n c → HasFault T A (placed Δ m d)
      → HasFault T A (placed Γ n c)
  within_fault here f = f
  within_fault (in_function w) f = fault_up _ _ _ among_first (within_fault w f)
  within_fault (in_letrec_body w) f = fault_up _ _ _ among_first (within_fault w f)
  within_fault (in_letrec_rest w) f = fault_up _ _ _ (among_later among_first) (within_fault w f)
  within_fault (in_call_function w) f = fault_up _ _ _ among_first (within_fault w f)
  within_fault (in_call_argument w) f = fault_up _ _ _ (among_later among_first) (within_fault w f)
  within_fault (in_if_condition w) f = fault_up _ _ _ among_first (within_fault w f)
  within_fault (in_if_yes w) f = fault_up _ _ _ (among_later among_first) (within_fault w f)
  within_fault (in_if_no w) f = fault_up _ _ _ (among_later (among_later among_first)) (within_fault w f)
  within_fault (in_check w) f = fault_up _ _ _ among_first (within_fault w f)
  within_fault (in_enable w) f = fault_up _ _ _ among_first (within_fault w f)
  within_fault (in_sign w) f = fault_up _ _ _ among_first (within_fault w f)
  within_fault (in_test_yes w) f = fault_up _ _ _ among_first (within_fault w f)
  within_fault (in_test_no w) f = fault_up _ _ _ (among_later among_first) (within_fault w f)
  within_fault (in_left w) f = fault_up _ _ _ among_first (within_fault w f)
  within_fault (in_right w) f = fault_up _ _ _ (among_later among_first) (within_fault w f)
  within_fault (in_post w) f = fault_up _ _ _ among_first (within_fault w f)

  -- ---- a fault has one of the rules' numbers
  ruled_below : (k : ℕ) (Γ : List ℕ) (n : ℕ) (c : Term) → size c < k → {cause at : ℕ} → infer T A Γ n c ≡ fault cause at → by_rules cause ≡ true
  ruled_below zero Γ n c h e = absurd (omega arith)
  ruled_below (suc k) Γ n c h {cause} {at} e =
      go (λ Δ m d l f. ruled_below k Δ m d l f) (subst (FaultOrigin (number_of c) (children_in T Γ n c)) e (judged Γ n c))
    where
      go : {cause at : ℕ} → ((Δ : List ℕ) (m : ℕ) (d : Term) → size d < k → infer T A Δ m d ≡ fault cause at → by_rules cause ≡ true)
          → FaultOrigin (number_of c) (children_in T Γ n c) (fault cause at) → by_rules cause ≡ true
      go r (own q b) = b
      go r (of_child m f) =
          let y = each_among (λ y. ChildOf T y Γ n c) m (children_of_lem T Γ n c) in
          r y.stands.bindings y.stands.principal y.stands.part (omega (arith, y.fewer)) (sym (ap (judgement_at T A) y.stands.is) ∙ f)

  pub ruled : (Γ : List ℕ) (n : ℕ) (c : Term) {cause at : ℕ} → infer T A Γ n c ≡ fault cause at → by_rules cause ≡ true
  ruled Γ n c e = ruled_below (suc (size c)) Γ n c (omega arith) e
