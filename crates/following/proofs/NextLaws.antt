-- The next place of the chain from the children by their position. All that these proofs ask of which children are followed is in `followed_is`,
-- and for a call in `part_needs` and `no_third`. Assumes nothing.
use mathlib.Core.Bool.{Bool, true, false, cond, not, true≢false, false≢true}
use mathlib.Core.List.{List, [], ◌∷◌}
use mathlib.Core.Option.{Option, none, some}
use mathlib.Core.Path.{◌≡◌, refl, sym, ap, ◌∙◌, subst}
use Prim.Native.Nat.{ℕ, ◌<◌}
use native.Mathlib.Omega.{arith}
use lib.Dec.{eqb}
use borrow.Author.Tests.{eq-eqb, ne_eqb}
use Rattle.std.specs.Prelude.{Result, Ok, Err}
use Rattle.privileges.specs.Sets.{privilege_count, has}
use Rattle.program.specs.Layout.{Types, authority, types_of}
use Rattle.program.specs.Terms.{Term, boolean, number, variable, function, letrec, call, if, check, enable, sign, test, binary, post, tree}
use Rattle.program.specs.Records.{term_record}
use Rattle.program.specs.declared.records.Counts.{Counts}
use Rattle.program.specs.declared.records.TermRecord.{TermRecord}
use Rattle.typing.specs.declared.answer.Fault.{Fault}
use Rattle.typing.specs.declared.answer.Typed.{Typed}
use Rattle.subtyping.specs.Known.{Known, Answered}
use Rattle.typing.specs.Verdicts.{term_judgement}
use Rattle.rules.specs.Inference.{inferred_model, context, Ready}
use Rattle.rules.specs.declared.bindings.Bindings.{Bindings}
use Rattle.checker.specs.Internal.{InferredAs}
use Rattle.typing.specs.Places.{Placed, placed, Among, among_first, among_later}
use Rattle.chains.specs.Explaining.{needing, needs, tests_it, followed, first_needing, next}
use Rattle.places.specs.Internal.{placed_at, ReadyPlace, Children, children_of, children_at, Child, child_at, ReadyChild, Reached}
use Rattle.chains.specs.Laws.Progress.{SomeNeeds, progress}
use Rattle.following.specs.Internal.{FunctionTypePrivilege, followed_of, followed_at, needs_at, cause_at, next_at, needed_by, Following, FollowingCall, FollowingOther, Stepped}
use Rattle.places.specs.declared.Place.{Place}
use Rattle.std.specs.Prelude.{Some, None, IfSome, is_some}
use Rattle.places.proofs.PlaceLaws as each
use Rattle.places.proofs.PlaceLaws.{◌and◌, all, most, term_of, tree_is}
use Rattle.following.proofs.CauseLaws.{call_typed, part_typed, part_function}

-- ---- the children that are followed, in order
abbrev listed : Option Placed → List Placed → List Placed
listed none l = l
listed (some x) l = x ∷ l

abbrev those : List (Option Placed) → List Placed
those [] = []
those (o ∷ os) = listed o (those os)

abbrev in_order_holds : Children → List (Option Placed)
in_order_holds k = k.first ∷ k.second ∷ k.third ∷ []

tested : (z : Bool) (x y : Placed) → cond z (y ∷ []) (x ∷ y ∷ []) ≡ listed (cond z none (some x)) (y ∷ [])
tested true x y = refl
tested false x y = refl

followed_is : (T : Types) (A : ℕ → ℕ) (p : ℕ) (x : Placed) → followed T A p x ≡ those (in_order_holds (followed_of T A p x))
unfolding followed
followed_is T A p (placed Γ n (boolean at b)) = refl
followed_is T A p (placed Γ n (number at k)) = refl
followed_is T A p (placed Γ n (variable at i)) = refl
followed_is T A p (placed Γ n (function at ty body)) = refl
followed_is T A p (placed Γ n (letrec at ty body rest)) = refl
followed_is T A p (placed Γ n (call at f a)) = refl
followed_is T A p (placed Γ n (if at c y o)) = refl
followed_is T A p (placed Γ n (check at q c)) = refl
followed_is T A p (placed Γ n (enable at q c)) = refl
followed_is T A p (placed Γ n (sign at m c)) = refl
followed_is T A p (placed Γ n (test at q y o)) = tested (eqb q p) (placed Γ n y) (placed Γ n o)
followed_is T A p (placed Γ n (binary at op a b)) = refl
followed_is T A p (placed Γ n (post at ch g c)) = refl

-- ---- the first child, which is not followed where the term is a test of the privilege
module _ {s : List ℕ} {c : Counts} {t : ℕ} {b : Bindings} {n : ℕ} (R : Ready s c t b n) {x : TermRecord} (h : x ≡ term_record s c t) (p : ℕ) where
  abbrev tests : Term → Bool
  tests z = tests_it (types_of s) (authority s) p z

  abbrev first_of : Bool → Option Placed
  first_of z = cond z none (children_of (types_of s) (placed (context b) n (tree s t))).first

  pub yes_branch : x.kind ≡ 10 → x.small ≡ p → Reached s c t None (first_of (tests (tree s t)))
  yes_branch e q = record { is = ap first_of (sym (ap tests (tree_is R h e) ∙ eq-eqb x.small p q)); lower = tt; ready = tt }

  first_kept : tests (tree s t) ≡ false → {r : Child} → Reached s c t r (first_of false) → Reached s c t r (first_of (tests (tree s t)))
  first_kept q w = record { is = w.is ∙ ap first_of (sym q); lower = w.lower; ready = w.ready }

  pub other_test : x.kind ≡ 10 → (x.small ≡ p → ⊥) → {r : Child} → Reached s c t r (first_of false) → Reached s c t r (first_of (tests (tree s t)))
  other_test e q w = first_kept (ap tests (tree_is R h e) ∙ ne_eqb x.small p q) w

  other : {k : ℕ} → tests (term_of R h k) ≡ false → x.kind ≡ k → tests (tree s t) ≡ false
  other q e = ap tests (tree_is R h e) ∙ q

  pub no_test : (x.kind ≡ 10 → ⊥) → {r : Child} → Reached s c t r (first_of false) → Reached s c t r (first_of (tests (tree s t)))
  no_test n10 w = first_kept (each.among {P = λ k. x.kind ≡ k → tests (tree s t) ≡ false} {m = 0} {n = 15}
      (other refl and other refl and other refl and other refl and other refl and other refl and other refl and other refl and other refl and other refl
      and (λ e. absurd (n10 e)) and other refl and other refl and other refl and other refl and all)
      x.kind (omega arith) (omega (arith, most R h)) refl) w

-- ---- whether a child that is there needs the privilege
module _ (s : List ℕ) (p : ℕ) (y : Place) (j : Result Typed Fault)
    (q : inferred_model j ≡ term_judgement s (context y.bindings) y.principal y.term) where
  present_needs : needing p (inferred_model j) ≡ needed_by s p (child_at s (Some y))
  unfolding term_judgement needs
  present_needs = ap (needing p) q

  pub typed_needs : {x : Typed} → j ≡ Ok x → {r : Bool} → r ≡ has p x.needs → r ≡ needed_by s p (child_at s (Some y))
  typed_needs e f = f ∙ ap (λ (j : Result Typed Fault). needing p (inferred_model j)) (sym e) ∙ present_needs

  pub fault_needs : {a : Fault} → j ≡ Err a → false ≡ needed_by s p (child_at s (Some y))
  fault_needs e = ap (λ (j : Result Typed Fault). needing p (inferred_model j)) (sym e) ∙ present_needs

-- ---- the first of them that does
module _ (s : List ℕ) (p : ℕ) where
  abbrev among : List Placed → Option Placed
  among l = first_needing (types_of s) (authority s) p l

  taken : (o : Option Placed) (l : List Placed) → needed_by s p o ≡ true → o ≡ among (listed o l)
  taken none l e = absurd (false≢true e)
  taken (some x) l e = rw e

  passed : (o : Option Placed) (l : List Placed) → needed_by s p o ≡ false → among l ≡ among (listed o l)
  passed none l e = refl
  passed (some x) l e = rw e

-- ---- one child after the other: the next place is among those that are left, and one of them needs the privilege
pub record ChildrenLeft (s : List ℕ) (p : ℕ) (due : Option Placed) (os : List (Option Placed)) : Type 0 where
  due_is : due ≡ among s p (those os)
  someone : SomeNeeds (types_of s) (authority s) p (those os)

-- a cause ends the chain
pub cause_ends : {s : List ℕ} {c : Counts} (p : ℕ) (at : Place) {l : List ℕ} {z : Bool} → z ≡ cause_at s p at → z ≡ true
    → Stepped s c p None (next_at s p at) l
unfolding next
cause_ends p at a e = record { is = rw (sym a ∙ e); following = tt }

-- else one of the children is the next
pub all_left : (s : List ℕ) (p : ℕ) (at : Place) {z : Bool} → needs_at s p at ≡ true → z ≡ cause_at s p at → z ≡ false
    → ChildrenLeft s p (next_at s p at) (in_order_holds (followed_at s p at))
unfolding next
all_left s p at h a e = record {
  due_is = rw (sym a ∙ e) (ap (among s p) (followed_is (types_of s) (authority s) p (placed_at s at)));
  someone = subst (SomeNeeds (types_of s) (authority s) p) (followed_is (types_of s) (authority s) p (placed_at s at))
      (progress (types_of s) (authority s) p (placed_at s at) h (sym a ∙ e));
}

module _ (s : List ℕ) (p : ℕ) where
  abbrev Someone : List Placed → Type 0
  Someone l = SomeNeeds (types_of s) (authority s) p l

  -- where one does not need it, it is one of the others
  among_others : (o : Option Placed) (l : List Placed) → needed_by s p o ≡ false → Someone (listed o l) → Someone l
  among_others none l e h = h
  among_others (some x) l e h = go h.among h.needed
    where
      go : {y : Placed} → Among y (x ∷ l) → needs (types_of s) (authority s) p y ≡ true → Someone l
      go among_first f = absurd (true≢false (sym f ∙ e))
      go (among_later m) f = record { which = _; among = m; needed = f }

  -- and where there are no others, it is that one
  the_last : (o : Option Placed) → Someone (listed o []) → needed_by s p o ≡ true
  the_last o h = go o h.among h.needed
    where
      go : {y : Placed} (o : Option Placed) → Among y (listed o []) → needs (types_of s) (authority s) p y ≡ true → needed_by s p o ≡ true
      go none m f = elim m [ ]
      go (some x) among_first f = f
      go (some x) (among_later m) f = elim m [ ]

-- a child that does not need the privilege is passed
passed_by : {s : List ℕ} {p : ℕ} {o : Option Placed} {os : List (Option Placed)} {due : Option Placed} → ChildrenLeft s p due (o ∷ os) → needed_by s p o ≡ false
    → ChildrenLeft s p due os
passed_by {s} {p} {o} {os} q e = record {
  due_is = q.due_is ∙ sym (passed s p o (those os) e);
  someone = among_others s p o (those os) e q.someone;
}

module _ {s : List ℕ} {c : Counts} {p t : ℕ} {o : Option Placed} {os : List (Option Placed)} {due : Option Placed} {y : Child} {l : List ℕ}
    (q : ChildrenLeft s p due (o ∷ os)) (w : Reached s c t y o) where
  next_is : p < privilege_count → Known (types_of s) l → needed_by s p o ≡ true → Stepped s c p y due l
  next_is small k e = record { is = w.is ∙ taken s p o (those os) e ∙ sym q.due_is; following = follows y w.ready (ap (needed_by s p) w.is ∙ e) }
    where
      follows : (y : Child) → ReadyChild s c y → needed_by s p (child_at s y) ≡ true → IfSome y (Following s c l p)
      follows None r f = tt
      follows (Some x) r f = record { ready = r; known = k; privilege = small; needing = f }

  -- the last that is there is the next
  pub last_next : p < privilege_count → Known (types_of s) l → those os ≡ [] → Stepped s c p y due l
  last_next small k e = next_is small k (the_last s p o (subst (λ (m : List Placed). SomeNeeds (types_of s) (authority s) p (listed o m)) e q.someone))

  module _ {z : Bool} (a : Answered (types_of s) z (needed_by s p (child_at s y)) l) where
    needed_is : needed_by s p o ≡ z
    needed_is = ap (needed_by s p) (sym w.is) ∙ sym a.is

    pub others_left : z ≡ false → ChildrenLeft s p due os
    others_left e = passed_by q (needed_is ∙ e)

    -- one that does is the next
    pub child_next : p < privilege_count → z ≡ true → Stepped s c p y due l
    child_next small e = next_is small a.known (needed_is ∙ e)

-- ---- a child that is not there
nothing_at : (s : List ℕ) (y : Child) {z : Bool} → is_some y ≡ not z → z ≡ true → child_at s y ≡ none
nothing_at s None e f = refl
nothing_at s (Some x) e f = absurd (true≢false (e ∙ ap not f))

pub not_listed : {s : List ℕ} {c : Counts} {t : ℕ} {y : Child} {o : Option Placed} → Reached s c t y o → {z : Bool} → is_some y ≡ not z → z ≡ true
    → (l : List Placed) → listed o l ≡ l
not_listed {s} {y = y} w e f l = ap (λ (o : Option Placed). listed o l) (sym w.is ∙ nothing_at s y e f)

-- ---- a place by its term's kind, once the record has been read
module _ {s : List ℕ} {c : Counts} {l : List ℕ} {p : ℕ} {at : Place} (F : Following s c l p at) {x : TermRecord} (h : x ≡ term_record s c at.term) where
  pub at_call : x.kind ≡ 5 → FollowingCall s c l p at
  at_call e = record { following = F; is_call = ap (λ (x : TermRecord). x.kind) (sym h) ∙ e }

  pub at_other : (x.kind ≡ 5 → ⊥) → FollowingOther s c l p at
  at_other e = record { following = F; no_call = λ f. e (ap (λ (x : TermRecord). x.kind) h ∙ f) }

-- ---- after a call: its function part's judgement tells whether the call is a cause, and whether the function part needs the privilege
module _ {s : List ℕ} {c : Counts} {k : List ℕ} {p : ℕ} {at : Place} (F : FollowingCall s c k p at) {x : TermRecord} (h : x ≡ term_record s c at.term) where
  kind_is : x.kind ≡ 5
  kind_is = ap (λ (x : TermRecord). x.kind) h ∙ F.is_call

  abbrev ready : ReadyPlace s c at
  ready = F.following.ready

  pub part_ready : Ready s c x.first at.bindings at.principal
  part_ready = each.call_ready ready h kind_is

  abbrev parts : Term → Children
  parts z = followed_of (types_of s) (authority s) p (placed (context at.bindings) at.principal z)

  no_third : listed (followed_at s p at).third [] ≡ []
  no_third = ap (λ (z : Term). listed (parts z).third []) (tree_is ready h kind_is)

  module _ {l : List ℕ} (j : Result Typed Fault) (a : InferredAs s (context at.bindings) at.principal x.first j l) where
    part_needs : needing p (inferred_model j) ≡ needed_by s p (followed_at s p at).first
    unfolding needs term_judgement
    part_needs = ap (needing p) a.is ∙ ap (λ (z : Term). needed_by s p (parts z).first) (sym (tree_is ready h kind_is))

    -- the call needs the privilege, so that its function part has no fault
    pub part_faulty : {f : Fault} → j ≡ Err f → {r : Child} → Stepped s c p r (next_at s p at) l
    part_faulty g = absurd (part_typed ready h p kind_is j a.is F.following.needing g)

    module _ {y : Typed} (g : j ≡ Ok y) where
      pub part_type : FunctionTypePrivilege s c y.ty p
      part_type = record {
        sheet = ready.sheet;
        is_function = part_function ready h p kind_is j a.is g F.following.needing;
        privilege = F.following.privilege;
      }

      module _ {z : Bool} (f : z ≡ has p ((types_of s).latent y.ty)) where
        call_is_cause : z ≡ cause_at s p at
        call_is_cause = call_typed ready h p kind_is j a.is g f

        pub call_ends : z ≡ true → Stepped s c p None (next_at s p at) l
        call_ends e = cause_ends p at call_is_cause e

        module _ (e : z ≡ false) {v : Bool} (d : v ≡ has p y.needs) where
          both_left : ChildrenLeft s p (next_at s p at) (in_order_holds (followed_at s p at))
          both_left = all_left s p at F.following.needing call_is_cause e

          part_needed : needed_by s p (followed_at s p at).first ≡ v
          part_needed = sym (d ∙ ap (λ (j : Result Typed Fault). needing p (inferred_model j)) (sym g) ∙ part_needs)

          pub function_next : v ≡ true → {r : Child} → Reached s c at.term r (children_at s at).first → Stepped s c p r (next_at s p at) l
          function_next i w = next_is both_left (no_test ready h p (λ ten. omega (arith, ten, kind_is)) w) F.following.privilege a.known
              (part_needed ∙ i)

          pub argument_next : v ≡ false → {r : Child} → Reached s c at.term r (children_at s at).second → Stepped s c p r (next_at s p at) l
          argument_next i w = last_next (passed_by both_left (part_needed ∙ i)) w F.following.privilege a.known no_third
