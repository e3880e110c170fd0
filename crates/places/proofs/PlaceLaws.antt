-- The children of a term, from its record: which there are, where each stands, and what judging it asks; each has a lower number. Assumes nothing.
use mathlib.Core.Bool.{true}
use mathlib.Core.List.{List, [], ◌∷◌}
use mathlib.Core.Logic.{⊎_elim}
use mathlib.Core.Option.{Option, none, some}
use mathlib.Core.Path.{◌≡◌, refl, sym, ap, ◌∙◌, subst}
use Prim.Native.Nat.{ℕ, zero, suc, ◌+◌, ◌*◌, ◌-◌, ◌<◌, ◌≤◌}
use native.Mathlib.Nat.{eq-or-lt_of_le}
use native.Mathlib.Omega.{arith}
use lib.ListN.{replicate}
use Rattle.program.specs.Limits.{max_types, max_nesting}
use Rattle.program.specs.Layout.{types_of, term_at, guard_of}
use Rattle.program.specs.Formats.{Part, function_type, kind_of, format}
use Rattle.program.specs.Terms.{Term, node, tree, program}
use Rattle.program.specs.Decoding.{part_ok}
use Rattle.program.specs.Records.{term_at_byte, term_record, type_record}
use Rattle.program.specs.declared.records.Counts.{Counts}
use Rattle.program.specs.declared.records.TermRecord.{TermRecord}
use Rattle.program.specs.declared.records.TypeRecord.{TypeRecord}
use Rattle.program.proofs.Laws.Readable.{WellFormed}
use Rattle.program.proofs.Laws.Records.{term_is}
use Rattle.program.proofs.Laws.Trees.{parts, tree_node}
use Rattle.subtyping.specs.Laws.Records.{type_parts}
use Rattle.subtyping.proofs.KnownLaws.{known_none}
use Rattle.rules.specs.Inference.{last_first, context, Ready}
use Rattle.rules.specs.Steps.{Pushed}
use Rattle.rules.specs.declared.bindings.Bindings.{Bindings}
use Rattle.checker.specs.Internal.{ReadyAt}
use Rattle.checker.proofs.VerdictLaws.{root_ready}
use Rattle.checker.proofs.TermLaws.{ChildReady, kind_most, check_child, enable_child, sign_child, post_child, call_first, call_second, test_first, test_second, binary_first, binary_second, if_first, if_second, if_third, function_room, function_child, letrec_room, letrec_body, letrec_rest}
use Rattle.typing.specs.Places.{Placed, placed}
use Rattle.std.specs.Prelude.{Some, None}
use Rattle.places.specs.Internal.{placed_at, ReadyPlace, place_of, Child, AtRoot, Children, children_of, Reached}
use Rattle.places.specs.declared.Place.{Place}
use Rattle.accessors.specs.Internal.{FormedSheet}

-- ---- what holds at each of the numbers from m on holds at every number among them
infixr 10 ◌and◌
pub data EachChild (P : ℕ → Type 0) : (m count : ℕ) → Type 0 where
  all : {m : ℕ} → EachChild P m zero
  ◌and◌ : {m n : ℕ} → P m → EachChild P (suc m) n → EachChild P m (suc n)

pub among : {P : ℕ → Type 0} {m n : ℕ} → EachChild P m n → (k : ℕ) → m ≤ k → k < m + n → P k
among all k h g = absurd (omega arith)
among {P} {m} (x and xs) k h g = ⊎_elim (λ e. subst P e x) (λ l. among xs k l (omega arith)) (eq-or-lt_of_le {n = m} {m = k} h)

-- ---- the positions
abbrev first : Children → Option Placed
first k = k.first

abbrev second : Children → Option Placed
second k = k.second

abbrev third : Children → Option Placed
third k = k.third

module _ {s : List ℕ} {c : Counts} {t : ℕ} {b : Bindings} {n : ℕ} (R : Ready s c t b n) {x : TermRecord} (h : x ≡ term_record s c t) where
  well : WellFormed s
  well = R.sheet.well_formed

  -- the type checker's laws ask for a table of pairs of types, and an empty one serves
  pub at_record : ReadyAt s c (replicate (max_types * 8) 0) t b n x
  at_record = record { ready = R; known = known_none (types_of s) _ refl; record_is = h }

  parts_are : x ≡ term_at_byte s (term_at s t)
  parts_are = h ∙ term_is s well c R.sheet.counts t R.inside

  -- the term of a kind by its number, over the parts of the record
  abbrev pub term_of : (k : ℕ) → Term
  term_of k = node (guard_of s) (kind_of k) t x.small x.first x.second x.third (tree s)

  module _ {k : ℕ} (e : x.kind ≡ k) where
    pub tree_is : tree s t ≡ term_of k
    tree_is = subst (λ (x : TermRecord). tree s t ≡ node (guard_of s) (kind_of x.kind) t x.small x.first x.second x.third (tree s)) (sym parts_are)
        (tree_node s well t R.inside)
        ∙ ap term_of e

    is_function : (format (kind_of k)).first ≡ function_type → (types_of s).is_fun x.first ≡ true
    is_function q = subst (λ (f : Part). part_ok s t f x.first ≡ true) (ap (λ (k : ℕ). (format (kind_of k)).first) e ∙ q)
        (subst (λ (x : TermRecord). part_ok s t (format (kind_of x.kind)).first x.first ≡ true) (sym parts_are) (parts s well t R.inside).first_ok)

    argument_is : (format (kind_of k)).first ≡ function_type → {f : TypeRecord} → f ≡ type_record s c x.first → f.arg ≡ (types_of s).arg x.first
    argument_is q g = (type_parts R.sheet x.first (is_function q) g).arg_is

  pub most : x.kind ≤ 14
  most = kind_most at_record

  pub function_fits : x.kind ≡ 3 → b.len < max_nesting
  function_fits e = function_room at_record e

  pub letrec_fits : x.kind ≡ 4 → b.len + 1 < max_nesting
  letrec_fits e = letrec_room at_record e

  pub letrec_function : x.kind ≡ 4 → (types_of s).is_fun x.first ≡ true
  letrec_function e = is_function e refl

  pub call_ready : x.kind ≡ 5 → Ready s c x.first b n
  call_ready e = (call_first at_record e).ready

  -- ---- a child at a position
  module _ (position : Children → Option Placed) where
    abbrev child_of : (k : ℕ) → Option Placed
    child_of k = position (children_of (types_of s) (placed (context b) n (term_of k)))

    abbrev due : Option Placed
    due = position (children_of (types_of s) (placed (context b) n (tree s t)))

    due_is : {k : ℕ} → x.kind ≡ k → child_of k ≡ due
    due_is e = ap (λ (z : Term). position (children_of (types_of s) (placed (context b) n z))) (sym (tree_is e))

    gone : {k : ℕ} → none ≡ child_of k → x.kind ≡ k → Reached s c t None due
    gone q e = record { is = q ∙ due_is e; lower = tt; ready = tt }

    here : {y m k : ℕ} {d : Bindings} {r : Place} → r ≡ place_of y d m → some (placed (context d) m (tree s y)) ≡ child_of k
        → (x.kind ≡ k → ChildReady s c t y d m) → x.kind ≡ k → Reached s c t (Some r) due
    here g q w e = rw g (record { is = q ∙ due_is e; lower = (w e).lower; ready = (w e).ready })

    -- by the kind's number, among several
    abbrev KindCase : Child → (k : ℕ) → Type 0
    KindCase r k = x.kind ≡ k → Reached s c t r due

    cases : {r : Child} (m count : ℕ) → EachChild (KindCase r) m count → m ≤ x.kind → x.kind < m + count → Reached s c t r due
    cases m count a l u = among a x.kind l u refl

  -- ---- the first
  pub no_first : x.kind < 5 → Reached s c t None (due first)
  no_first l = cases first 0 5 (gone first refl and gone first refl and gone first refl and gone first refl and gone first refl and all)
      (omega arith) l

  pub first_signed : {r : Place} → x.kind ≡ 9 → r ≡ place_of x.first b x.small → Reached s c t (Some r) (due first)
  first_signed e g = here first g refl (sign_child at_record) e

  pub first_same : {r : Place} → 5 ≤ x.kind → (x.kind ≡ 9 → ⊥) → r ≡ place_of x.first b n → Reached s c t (Some r) (due first)
  first_same l n9 g = cases first 5 10
      (here first g refl (call_first at_record)
      and here first g refl (if_first at_record)
      and here first g refl (check_child at_record)
      and here first g refl (enable_child at_record)
      and (λ e. absurd (n9 e))
      and here first g refl (test_first at_record)
      and here first g refl (λ e. binary_first at_record (omega arith) (omega arith))
      and here first g refl (λ e. binary_first at_record (omega arith) (omega arith))
      and here first g refl (λ e. binary_first at_record (omega arith) (omega arith))
      and here first g refl (post_child at_record) and all)
      l (omega (arith, most))

  -- ---- the second
  pub no_second_leaf : x.kind < 3 → Reached s c t None (due second)
  no_second_leaf l = cases second 0 3 (gone second refl and gone second refl and gone second refl and all) (omega arith) l

  pub no_second_one : 7 ≤ x.kind → x.kind < 10 → Reached s c t None (due second)
  no_second_one l u = cases second 7 3 (gone second refl and gone second refl and gone second refl and all) l u

  pub no_second_post : 14 ≤ x.kind → Reached s c t None (due second)
  no_second_post l = cases second 14 1 (gone second refl and all) l (omega (arith, most))

  pub second_call : {r : Place} → r ≡ place_of x.second b n → 5 ≤ x.kind → x.kind < 7 → Reached s c t (Some r) (due second)
  second_call g l u = cases second 5 2
      (here second g refl (call_second at_record) and here second g refl (if_second at_record) and all) l u

  pub second_same : {r : Place} → r ≡ place_of x.second b n → 10 ≤ x.kind → x.kind < 14 → Reached s c t (Some r) (due second)
  second_same g l u = cases second 10 4
      (here second g refl (test_second at_record)
      and here second g refl (λ e. binary_second at_record (omega arith) (omega arith))
      and here second g refl (λ e. binary_second at_record (omega arith) (omega arith))
      and here second g refl (λ e. binary_second at_record (omega arith) (omega arith)) and all)
      l u

  pub second_function : {r : Place} {f : TypeRecord} {d : Bindings} → x.kind ≡ 3 → f ≡ type_record s c x.first → Pushed b f.arg d
      → r ≡ place_of x.second d n → Reached s c t (Some r) (due second)
  second_function e q v g = here second g (λ i. some (placed ((v.context_is ∙ λ j. argument_is e refl q j ∷ context b) i) n (tree s x.second)))
      (λ e. function_child at_record e v) e

  module _ (e : x.kind ≡ 4) {r : Place} {d : Bindings} (v : Pushed b x.first d) where
    pub second_letrec : {f : TypeRecord} {g : Bindings} → f ≡ type_record s c x.first → Pushed d f.arg g → r ≡ place_of x.second g n
        → Reached s c t (Some r) (due second)
    second_letrec q w h = here second h
        (λ i. some (placed ((w.context_is ∙ λ j. argument_is e refl q j ∷ v.context_is j) i) n (tree s x.second))) (λ e. letrec_body at_record e v w) e

    pub third_letrec : r ≡ place_of x.third d n → Reached s c t (Some r) (due third)
    third_letrec h = here third h (λ i. some (placed (v.context_is i) n (tree s x.third))) (λ e. letrec_rest at_record e v) e

  -- ---- the third
  pub third_if : {r : Place} → x.kind ≡ 6 → r ≡ place_of x.third b n → Reached s c t (Some r) (due third)
  third_if e g = here third g refl (if_third at_record) e

  pub no_third : (x.kind ≡ 4 → ⊥) → (x.kind ≡ 6 → ⊥) → Reached s c t None (due third)
  no_third n4 n6 = cases third 0 15
      (gone third refl and gone third refl and gone third refl and gone third refl and (λ e. absurd (n4 e)) and gone third refl
      and (λ e. absurd (n6 e)) and gone third refl and gone third refl and gone third refl and gone third refl and gone third refl
      and gone third refl and gone third refl and gone third refl and all)
      (omega arith) (omega (arith, most))

-- ---- what falls: the number of a term that is there
abbrev pub fuel : Child → ℕ
fuel None = 0
fuel (Some x) = suc x.term

pub child_falls : {s : List ℕ} {c : Counts} {x : Child} {at : Place} (y : Child) {due : Option Placed} → x ≡ Some at → Reached s c at.term y due
    → fuel y < fuel x
child_falls None e r = rw e (omega arith)
child_falls (Some y) e r = rw e (omega (arith, r.lower))

-- ---- the root
pub root_at : {c : Counts} {b : Bindings} → b.len ≡ 0 → {r : Place} → r ≡ place_of (c.terms - 1) b 0 → AtRoot c r
root_at e q = rw q (record { term_is = refl; no_bindings = e; principal_is = refl })

module _ {s : List ℕ} {c : Counts} (S : FormedSheet s c) {r : Place} (h : AtRoot c r) where
  pub root_place_ready : ReadyPlace s c r
  root_place_ready = rw (h.term_is, h.principal_is) (root_ready S r.bindings h.no_bindings)

  pub root_placed : placed_at s r ≡ placed [] 0 (program s)
  root_placed = λ i.
      placed (last_first r.bindings.types (h.no_bindings i)) (h.principal_is i)
      (tree s ((h.term_is ∙ ap (λ (n : ℕ). n - 1) S.counts.terms_are) i))
