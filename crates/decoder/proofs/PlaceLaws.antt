-- Parents and signs: what the list of parents holds, and what it says of a term's place.
use mathlib.Core.Bool.{Bool, true, false, not, cond, ◌&&◌, ◌||◌}
use mathlib.Core.List.{List}
use mathlib.Core.Path.{◌≡◌, refl, sym, ap, ◌∙◌, subst}
use Prim.Native.Nat.{ℕ, zero, suc, ◌+◌, ◌-◌, ◌<◌, ◌≤◌}
use native.Mathlib.Decide.{ℕ_discrete, dec_lt}
use native.Mathlib.Omega.{arith}
use lib.Dec.{eqb}
use lib.ListN.{get_or, length, set, replicate, get_or-replicate}
use lib.Seq.{get_or-set_same, get_or-set_other}
use borrow.Author.Tests.{eqb-true, eqb-false, eq-eqb, ne_eqb}
use Rattle.std.specs.Prelude.{Some, None}
use Rattle.std.specs.Bool.{then_some}
use Rattle.program.specs.Limits.{max_terms}
use Rattle.program.specs.Layout.{terms, term_at, root, kind_byte, first, second, third}
use Rattle.program.specs.Formats.{Part, is_child, Kind, Boolean, Number, Variable, Function, Letrec, Call, If, Check, Enable, Sign, Test, Sum, Difference, Less, Post, kind_of, format}
use Rattle.program.specs.Decoding.{format_at, term_ok, child_count, times_in, times_below, is_sign, signed_body, placed_ok, parent}
use Rattle.accessors.specs.Internal.{Laid, TermInside, term_inside}
use Rattle.termrecords.specs.Internal.{kind_shape, shape_at}
use Rattle.decoder.specs.Internal.{TermsOk, TableTerm, link_step, Linked, link_times, count_equal, times_in_shape, LinkedAll, ChildrenBelow, link_of, Links, many_parents, TwoBelow}
use Rattle.program.specs.Records.{term_at_byte, term_record}
use Rattle.program.proofs.Laws.Screening.{lowest_none}
use Rattle.program.proofs.Laws.Readable.{fields_ok}
use Rattle.program.proofs.Laws.Records.{term_laid}
use Rattle.program.proofs.Laws.Trees.{Below, below_of}
use Rattle.program.specs.declared.records.Counts.{Counts}
use Rattle.program.specs.declared.records.TermRecord.{TermRecord}
use Rattle.termrecords.specs.declared.Shape.{Shape}
use Rattle.termrecords.specs.declared.Shape.TheVariants.{Leaf, One, Two, Three, Function as FunctionShape, Letrec as LetrecShape}

-- ---- one store
stored : (l : List ℕ) (x v : ℕ) → x < length l → (y : ℕ) → get_or (set l x v) y 0 ≡ cond (eqb x y) v (get_or l y 0)
stored l x v h y = elim (ℕ_discrete x y) [
  | yes e ↦ ap (λ (z : ℕ). get_or (set l x v) z 0) (sym e) ∙ get_or-set_same l x v 0 h ∙ sym (ap (λ (b : Bool). cond b v (get_or l y 0)) (eq-eqb x y e))
  | no n ↦ get_or-set_other l x y v 0 (λ e. n (sym e)) ∙ sym (ap (λ (b : Bool). cond b v (get_or l y 0)) (ne_eqb x y n))
]

at_y : (x y : ℕ) (f : ℕ → ℕ) (d : ℕ) → cond (eqb x y) (f x) d ≡ cond (eqb x y) (f y) d
at_y x y f d = elim (ℕ_discrete x y) [
  | yes e ↦ ap (λ (z : ℕ). cond (eqb x y) (f z) d) e
  | no n ↦ ap (λ (b : Bool). cond b (f x) d) (ne_eqb x y n) ∙ sym (ap (λ (b : Bool). cond b (f y) d) (ne_eqb x y n))
]

linked : (l : List ℕ) (x t v : ℕ) → x < length l → v ≡ link_step (get_or l x 0) t → Linked l (set l x v) x t
linked l x t v h e y g =
    stored l x v h y ∙ ap (λ (z : ℕ). cond (eqb x y) z (get_or l y 0)) e ∙ at_y x y (λ z. link_step (get_or l z 0) t) (get_or l y 0)

pub linked_first : (l : List ℕ) (x t : ℕ) → x < length l → get_or l x 0 ≡ 0 → Linked l (set l x t) x t
linked_first l x t h e = linked l x t t h (sym (ap (λ (b : Bool). cond b t many_parents) (eq-eqb (get_or l x 0) 0 e)))

pub linked_again : (l : List ℕ) (x t : ℕ) → x < length l → (get_or l x 0 ≡ 0 → ⊥) → Linked l (set l x many_parents) x t
linked_again l x t h n = linked l x t many_parents h (sym (ap (λ (b : Bool). cond b t many_parents) (ne_eqb (get_or l x 0) 0 n)))

-- ---- the children of a shape, one after the other
step : (b : Bool) (v t : ℕ) → cond b (link_step v t) v ≡ link_times (cond b 1 0) v t
step true v t = refl
step false v t = refl

two_steps : (a b : Bool) (v t : ℕ) → link_times (cond b 1 0) (link_times (cond a 1 0) v t) t ≡ link_times (cond a 1 0 + cond b 1 0) v t
two_steps true true v t = refl
two_steps true false v t = refl
two_steps false true v t = refl
two_steps false false v t = refl

three_steps : (a b d : Bool) (v t : ℕ)
    → link_times (cond d 1 0) (link_times (cond b 1 0) (link_times (cond a 1 0) v t) t) t ≡ link_times (cond a 1 0 + cond b 1 0 + cond d 1 0) v t
three_steps true true true v t = refl
three_steps true true false v t = refl
three_steps true false true v t = refl
three_steps true false false v t = refl
three_steps false true true v t = refl
three_steps false true false v t = refl
three_steps false false true v t = refl
three_steps false false false v t = refl

module _ (l : List ℕ) (t : ℕ) where
  shape_of : (l' : List ℕ) {x y : Shape} → x ≡ y → LinkedAll l l' y t → LinkedAll l l' x t
  shape_of l' e w = subst (λ (z : Shape). LinkedAll l l' z t) (sym e) w

  pub links_leaf : {x : Shape} → x ≡ Leaf → LinkedAll l l x t
  links_leaf e = shape_of l e (λ y h. refl)

  alone : (l₁ : List ℕ) (a : ℕ) → Linked l l₁ a t → (y : ℕ) → y < length l → get_or l₁ y 0 ≡ link_times (count_equal a y) (get_or l y 0) t
  alone l₁ a w y h = w y h ∙ step (eqb a y) (get_or l y 0) t

  pub links_one : (l₁ : List ℕ) {x : Shape} (a : ℕ) → x ≡ One a → Linked l l₁ a t → LinkedAll l l₁ x t
  links_one l₁ a e w = shape_of l₁ e (alone l₁ a w)

  pub links_function : (l₁ : List ℕ) {x : Shape} (a : ℕ) → x ≡ FunctionShape a → Linked l l₁ a t → LinkedAll l l₁ x t
  links_function l₁ a e w = shape_of l₁ e (alone l₁ a w)

  both : (l₁ l₂ : List ℕ) (a b : ℕ) → length l₁ ≡ length l → Linked l l₁ a t → Linked l₁ l₂ b t → (y : ℕ) → y < length l
      → get_or l₂ y 0 ≡ link_times (count_equal b y) (link_times (count_equal a y) (get_or l y 0) t) t
  both l₁ l₂ a b k w v y h =
      v y (omega arith) ∙ step (eqb b y) (get_or l₁ y 0) t ∙ ap (λ (z : ℕ). link_times (count_equal b y) z t) (alone l₁ a w y h)

  pub links_two : (l₁ l₂ : List ℕ) {x : Shape} (a b : ℕ) → x ≡ Two a b → length l₁ ≡ length l → Linked l l₁ a t → Linked l₁ l₂ b t → LinkedAll l l₂ x t
  links_two l₁ l₂ a b e k w v = shape_of l₂ e (λ y h. both l₁ l₂ a b k w v y h ∙ two_steps (eqb a y) (eqb b y) (get_or l y 0) t)

  pub links_letrec : (l₁ l₂ : List ℕ) {x : Shape} (a b : ℕ) → x ≡ LetrecShape a b → length l₁ ≡ length l → Linked l l₁ a t → Linked l₁ l₂ b t
      → LinkedAll l l₂ x t
  links_letrec l₁ l₂ a b e k w v = shape_of l₂ e (λ y h. both l₁ l₂ a b k w v y h ∙ two_steps (eqb a y) (eqb b y) (get_or l y 0) t)

  pub links_three : (l₁ l₂ l₃ : List ℕ) {x : Shape} (a b d : ℕ) → x ≡ Three a b d → length l₁ ≡ length l → length l₂ ≡ length l₁
      → Linked l l₁ a t → Linked l₁ l₂ b t → Linked l₂ l₃ d t → LinkedAll l l₃ x t
  links_three l₁ l₂ l₃ a b d e k m w v u = shape_of l₃ e (λ y h.
      u y (omega arith) ∙ step (eqb d y) (get_or l₂ y 0) t ∙ ap (λ (z : ℕ). link_times (count_equal d y) z t) (both l₁ l₂ a b k w v y h)
      ∙ three_steps (eqb a y) (eqb b y) (eqb d y) (get_or l y 0) t)

pub by_shape : (n : ℕ) {x y : Shape} → x ≡ y → ChildrenBelow x n → ChildrenBelow y n
by_shape n e h = subst (λ (z : Shape). ChildrenBelow z n) e h

-- ---- a record's children
two_below : (t a b n : ℕ) → a < t → b < t → t ≤ n → TwoBelow a b n
two_below t a b n h g l = record { first = omega arith; second = omega arith }

children_below : (k : Kind) (t a b d n : ℕ) → Below (format k) t a b d → t ≤ n → ChildrenBelow (kind_shape k a b d) n
children_below Boolean t a b d n w l = tt
children_below Number t a b d n w l = tt
children_below Variable t a b d n w l = tt
children_below Function t a b d n w l = omega (arith, w.second_below refl)
children_below Letrec t a b d n w l = two_below t b d n (w.second_below refl) (w.third_below refl) l
children_below Call t a b d n w l = two_below t a b n (w.first_below refl) (w.second_below refl) l
children_below If t a b d n w l = record {
  first = omega (arith, w.first_below refl);
  second = omega (arith, w.second_below refl);
  third = omega (arith, w.third_below refl);
}
children_below Check t a b d n w l = omega (arith, w.first_below refl)
children_below Enable t a b d n w l = omega (arith, w.first_below refl)
children_below Sign t a b d n w l = omega (arith, w.first_below refl)
children_below Test t a b d n w l = two_below t a b n (w.first_below refl) (w.second_below refl) l
children_below Sum t a b d n w l = two_below t a b n (w.first_below refl) (w.second_below refl) l
children_below Difference t a b d n w l = two_below t a b n (w.first_below refl) (w.second_below refl) l
children_below Less t a b d n w l = two_below t a b n (w.first_below refl) (w.second_below refl) l
children_below Post t a b d n w l = omega (arith, w.first_below refl)

among_times : (k : Kind) (y a b d : ℕ) → times_in_shape y (kind_shape k a b d)
    ≡ child_count (format k).first a y + child_count (format k).second b y + child_count (format k).third d y
among_times Boolean y a b d = refl
among_times Number y a b d = refl
among_times Variable y a b d = refl
among_times Function y a b d = omega arith
among_times Letrec y a b d = omega arith
among_times Call y a b d = omega arith
among_times If y a b d = refl
among_times Check y a b d = omega arith
among_times Enable y a b d = omega arith
among_times Sign y a b d = omega arith
among_times Test y a b d = omega arith
among_times Sum y a b d = omega arith
among_times Difference y a b d = omega arith
among_times Less y a b d = omega arith
among_times Post y a b d = omega arith

terms_ok : (s : List ℕ) → TermsOk s → (t : ℕ) → t < terms s → term_ok s t ≡ true
terms_ok s T t h = lowest_none (term_ok s) 0 (terms s) T.none_found t (omega arith) (omega arith)

-- the shape of a right record
right_shape : (s : List ℕ) (t : ℕ) → term_ok s t ≡ true → shape_at s t ≡ Some (kind_shape (kind_of (kind_byte s t)) (first s t) (second s t) (third s t))
unfolding shape_at
right_shape s t h = ap (λ (b : Bool). then_some b (kind_shape (kind_of (kind_byte s t)) (first s t) (second s t) (third s t))) h

pub no_shape : (s : List ℕ) → TermsOk s → (t : ℕ) → t < terms s → shape_at s t ≡ None → ⊥
no_shape s T t h e = let p = right_shape s t (terms_ok s T t h) in cc

module _ (s : List ℕ) (T : TermsOk s) (few : terms s ≤ max_terms) (t : ℕ) (h : t < terms s) {x : Shape} (e : shape_at s t ≡ Some x) where
  shape_is : x ≡ kind_shape (kind_of (kind_byte s t)) (first s t) (second s t) (third s t)
  shape_is = let p = right_shape s t (terms_ok s T t h) in cc

  pub shape_below : ChildrenBelow x max_terms
  shape_below =
      subst (λ (z : Shape). ChildrenBelow z max_terms) (sym shape_is)
      (children_below (kind_of (kind_byte s t)) t (first s t) (second s t) (third s t) max_terms (below_of s t (terms_ok s T t h)) (omega arith))

  among_is : (y : ℕ) → times_in_shape y x ≡ times_in s y t
  among_is y = ap (times_in_shape y) shape_is ∙ among_times (kind_of (kind_byte s t)) y (first s t) (second s t) (third s t)

-- ---- the parent that is found lies above its child
not_counted : (p : Part) (v x t : ℕ) → (is_child p ≡ true → v < t) → t ≤ x → child_count p v x ≡ 0
not_counted p v x t f l = go (is_child p) refl
  where
    digit : Bool → ℕ
    digit b = cond b 1 0

    go : (b : Bool) → is_child p ≡ b → digit (is_child p && eqb v x) ≡ 0
    go true e = let g = f e in ap (λ (z : Bool). digit (is_child p && z)) (ne_eqb v x (λ q. omega arith)) ∙ ap (λ (z : Bool). digit (z && false)) e
    go false e = ap (λ (z : Bool). digit (z && eqb v x)) e

module _ (s : List ℕ) (T : TermsOk s) where
  child_lower : (x t : ℕ) → t < terms s → (times_in s x t ≡ 0 → ⊥) → x < t
  child_lower x t h n = go (dec_lt x t)
    where
      go : Dec (x < t) → x < t
      go (yes l) = l
      go (no l) =
          let w = below_of s t (terms_ok s T t h) in
          let u : t ≤ x = omega arith in
          absurd (n (omega (
            arith,
            not_counted (format_at s t).first (first s t) x t w.first_below u,
            not_counted (format_at s t).second (second s t) x t w.second_below u,
            not_counted (format_at s t).third (third s t) x t w.third_below u,
          )))

  pub record Higher (x n : ℕ) : Type 0 where
    pub above : x < parent s x n
    pub inside : parent s x n < n

  pub parent_higher : (x n : ℕ) → n ≤ terms s → 1 ≤ times_below s x n → Higher x n
  parent_higher x zero h g = absurd (omega arith)
  parent_higher x (suc t) h g = go (eqb (times_in s x t) 0) refl (parent_higher x t (omega arith))
    where
      go : (b : Bool) → eqb (times_in s x t) 0 ≡ b → (1 ≤ times_below s x t → Higher x t) → Higher x (suc t)
      go true e before =
          let z = eqb-true (times_in s x t) 0 e in
          let i = before (omega arith) in
          let q : parent s x (suc t) ≡ parent s x t = ap (λ (b : Bool). elim b [ true ↦ parent s x t | false ↦ t ]) e in
          record { above = omega (arith, q, i.above); inside = omega (arith, q, i.inside) }
      go false e before =
          let z = eqb-false (times_in s x t) 0 e in
          let q : parent s x (suc t) ≡ t = ap (λ (b : Bool). elim b [ true ↦ parent s x t | false ↦ t ]) e in
          record { above = omega (arith, q, child_lower x t (omega arith) z); inside = omega (arith, q) }

-- ---- what the list of parents holds
-- it has room for every term, and what the first t of all n terms note
pub record ParentsNoted (s l : List ℕ) (n t : ℕ) : Type 0 where
  pub below : t ≤ n
  pub all : n ≡ terms s
  pub room : length l ≡ max_terms
  pub links : Links s l t

pub links_none : (s : List ℕ) → Links s (replicate max_terms 0) 0
links_none s = record { each = λ x h. get_or-replicate max_terms x 0 0 h }

many : (k t : ℕ) → link_times k many_parents t ≡ many_parents
many zero t = refl
many (suc k) t = many k t

noted : (v t : ℕ) → 0 < v → link_step v t ≡ many_parents
noted v t h = ap (λ (b : Bool). cond b t many_parents) (ne_eqb v 0 (λ e. omega arith))

abbrev pick : Bool → (p t : ℕ) → ℕ
pick b p t = elim b [ true ↦ p | false ↦ t ]

-- so many more parents, all t, for a term that has m with p among them
link_more : (k m p t : ℕ) → (0 < m → 0 < p) → (0 < k → 0 < t) → link_times k (link_of m p) t ≡ link_of (k + m) (pick (eqb k 0) p t)
link_more zero m p t hp ht = let e : m ≡ 0 + m = omega arith in ap (λ (z : ℕ). link_of z p) e
link_more (suc zero) zero p t hp ht = refl
link_more (suc (suc k)) zero p t hp ht =
    let e : suc (suc k) ≡ suc (suc k) + 0 = omega arith in
    ap (λ (z : ℕ). link_times k z t) (noted t t (ht (omega arith))) ∙ many k t ∙ ap (λ (z : ℕ). link_of z (pick (eqb (suc (suc k)) 0) p t)) e
link_more (suc k) (suc zero) p t hp ht =
    let e : suc (suc k) ≡ suc k + 1 = omega arith in
    ap (λ (z : ℕ). link_times k z t) (noted p t (hp (omega arith))) ∙ many k t ∙ ap (λ (z : ℕ). link_of z (pick (eqb (suc k) 0) p t)) e
link_more (suc k) (suc (suc m)) p t hp ht =
    let e : suc (suc (suc k + m)) ≡ suc k + suc (suc m) = omega arith in
    many k t ∙ ap (λ (z : ℕ). link_of z (pick (eqb (suc k) 0) p t)) e

pub links_more : (s : List ℕ) → TermsOk s → terms s ≤ max_terms → (t : ℕ) → t < terms s → {x : Shape} → shape_at s t ≡ Some x
    → (l l' : List ℕ) → length l ≡ max_terms
    → Links s l t → LinkedAll l l' x t → Links s l' (t + 1)
links_more s T few t h {x} e l l' k w v = record {
  each = λ y g.
      let n : t + 1 ≡ suc t = omega arith in
      v y (omega arith) ∙ ap (λ (z : ℕ). link_times z (get_or l y 0) t) (among_is s T few t h e y)
      ∙ ap (λ (z : ℕ). link_times (times_in s y t) z t) (w.each y g)
      ∙ link_more (times_in s y t) (times_below s y t) (parent s y t) t (λ q. omega (arith, (parent_higher s T y t (omega arith) q).above))
      (λ q. omega (arith, child_lower s T y t h (λ z. omega arith)))
      ∙ ap (λ (z : ℕ). link_of (times_below s y z) (parent s y z)) (sym n);
}

-- ---- what it says of a term's place
parents_due : (m p : ℕ) (r : Bool) → (0 < m → 0 < p) → (0 < m → p < many_parents)
    → cond r (eqb (link_of m p) 0) (not (eqb (link_of m p) 0) && not (eqb (link_of m p) many_parents)) ≡ eqb m (cond r 0 1)
parents_due zero p true hp hq = refl
parents_due zero p false hp hq = refl
parents_due (suc zero) p true hp hq = ne_eqb p 0 (λ e. omega (arith, hp (omega arith)))
parents_due (suc zero) p false hp hq =
    (λ i. not (ne_eqb p 0 (λ e. omega (arith, hp (omega arith))) i) && not (ne_eqb p many_parents (λ e. omega (arith, hq (omega arith))) i))
parents_due (suc (suc m)) p true hp hq = sym (ne_eqb (suc (suc m)) 0 (λ e. omega arith))
parents_due (suc (suc m)) p false hp hq = sym (ne_eqb (suc (suc m)) 1 (λ e. omega arith))

-- only functions and letrecs, kinds 3 and 4, have a body
body_kind : (s : List ℕ) (k x : ℕ) → signed_body s (format (kind_of k)).second x ≡ cond (eqb k 3 || eqb k 4) (is_sign s x) true
body_kind s zero x = refl
body_kind s (suc zero) x = refl
body_kind s (suc (suc zero)) x = refl
body_kind s (suc (suc (suc zero))) x = refl
body_kind s (suc (suc (suc (suc zero)))) x = refl
body_kind s (suc (suc (suc (suc (suc zero))))) x = refl
body_kind s (suc (suc (suc (suc (suc (suc zero)))))) x = refl
body_kind s (suc (suc (suc (suc (suc (suc (suc zero))))))) x = refl
body_kind s (suc (suc (suc (suc (suc (suc (suc (suc zero)))))))) x = refl
body_kind s (suc (suc (suc (suc (suc (suc (suc (suc (suc zero))))))))) x = refl
body_kind s (suc (suc (suc (suc (suc (suc (suc (suc (suc (suc zero)))))))))) x = refl
body_kind s (suc (suc (suc (suc (suc (suc (suc (suc (suc (suc (suc zero))))))))))) x = refl
body_kind s (suc (suc (suc (suc (suc (suc (suc (suc (suc (suc (suc (suc zero)))))))))))) x = refl
body_kind s (suc (suc (suc (suc (suc (suc (suc (suc (suc (suc (suc (suc (suc zero))))))))))))) x = refl
body_kind s (suc (suc (suc (suc (suc (suc (suc (suc (suc (suc (suc (suc (suc (suc zero)))))))))))))) x = refl
body_kind s (suc (suc (suc (suc (suc (suc (suc (suc (suc (suc (suc (suc (suc (suc (suc n))))))))))))))) x =
    let k = (suc (suc (suc (suc (suc (suc (suc (suc (suc (suc (suc (suc (suc (suc (suc n))))))))))))))) in
    sym (λ i. cond (ne_eqb k 3 (λ e. omega arith) i || ne_eqb k 4 (λ e. omega arith) i) (is_sign s x) true)

body_child : (k : ℕ) → (eqb k 3 || eqb k 4) ≡ true → is_child (format (kind_of k)).second ≡ true
body_child k h = go (eqb k 3) refl h
  where
    second_child : ℕ → Bool
    second_child z = is_child (format (kind_of z)).second

    go : (b : Bool) → eqb k 3 ≡ b → (b || eqb k 4) ≡ true → second_child k ≡ true
    go true e h = ap second_child (eqb-true k 3 e)
    go false e h = ap second_child (eqb-true k 4 h)

pub record_inside : (s : List ℕ) (c : Counts) (t : ℕ) → TableTerm s c t → TermInside s c t
record_inside s c t K =
    let L = K.tables.laid in
    term_inside s (fields_ok s L.none_found).terms_in c L.counts_are t K.inside

module _ (s : List ℕ) (c : Counts) (t : ℕ) (K : TableTerm s c t) {r : TermRecord} (e : r ≡ term_record s c t) where
  read : r ≡ term_at_byte s (term_at s t)
  read = let L = K.tables.laid in e ∙ term_laid s (fields_ok s L.none_found).terms_in c L.counts_are t K.inside

  pub sign_is : eqb r.kind 9 ≡ is_sign s t
  sign_is = ap (λ (x : TermRecord). eqb x.kind 9) read

  -- a body is lower than its function, and so in the table
  pub body_in : (eqb r.kind 3 || eqb r.kind 4) ≡ true → TableTerm s c r.second
  body_in h =
      let lower = (below_of s t (terms_ok s K.tables.terms_ok t K.inside)).second_below in
      let child = body_child (kind_byte s t) (ap (λ (x : TermRecord). eqb x.kind 3 || eqb x.kind 4) (sym read) ∙ h) in
      record { tables = K.tables; inside = omega (arith, lower child, ap (λ (x : TermRecord). x.second) read, K.inside) }

  body_record : signed_body s (format_at s t).second (second s t) ≡ cond (eqb r.kind 3 || eqb r.kind 4) (is_sign s r.second) true
  body_record =
      ap (λ (x : TermRecord). signed_body s (format (kind_of x.kind)).second x.second) (sym read) ∙ body_kind s r.kind r.second

  pub body_is : {b : Bool} → (eqb r.kind 3 || eqb r.kind 4) ≡ true → b ≡ is_sign s r.second → b ≡ signed_body s (format_at s t).second (second s t)
  body_is h k = k ∙ sym (body_record ∙ (λ i. cond (h i) (is_sign s r.second) true))

  pub no_body : (eqb r.kind 3 || eqb r.kind 4) ≡ false → true ≡ signed_body s (format_at s t).second (second s t)
  no_body h = sym (body_record ∙ (λ i. cond (h i) (is_sign s r.second) true))

root_is : (t n : ℕ) → 1 ≤ n → eqb (t + 1) n ≡ eqb t (n - 1)
root_is t n h = elim (ℕ_discrete (t + 1) n) [
  | yes e ↦ eq-eqb (t + 1) n e ∙ sym (eq-eqb t (n - 1) (omega arith))
  | no g ↦ ne_eqb (t + 1) n g ∙ sym (ne_eqb t (n - 1) (λ z. g (omega arith)))
]

module _ (s : List ℕ) (c : Counts) (L : Laid s c) (T : TermsOk s) (t : ℕ) (h : t < terms s) (l : List ℕ) (w : Links s l (terms s)) where
  few : terms s ≤ max_terms
  few = (fields_ok s L.none_found).terms_high

  pub place_is : {n body sig : Bool} → n ≡ cond (eqb (t + 1) c.terms) (eqb (get_or l t 0) 0)
      (not (eqb (get_or l t 0) 0) && not (eqb (get_or l t 0) many_parents))
      → body ≡ signed_body s (format_at s t).second (second s t) → sig ≡ is_sign s t → (n && body && (not (eqb (t + 1) c.terms) || sig)) ≡ placed_ok s t
  place_is {n} {body} {sig} en eb es =
      let some : 1 ≤ terms s = (fields_ok s L.none_found).terms_low in
      let r : eqb (t + 1) c.terms ≡ eqb t (root s) = ap (eqb (t + 1)) L.counts_are.terms_are ∙ root_is t (terms s) some in
      let p : n ≡ eqb (times_below s t (terms s)) (cond (eqb t (root s)) 0 1) =
      en ∙ (λ i. cond (r i) (eqb (w.each t (omega (arith, few)) i) 0)
      (not (eqb (w.each t (omega (arith, few)) i) 0) && not (eqb (w.each t (omega (arith, few)) i) many_parents)))
      ∙ parents_due (times_below s t (terms s)) (parent s t (terms s)) (eqb t (root s))
      (λ g. omega (arith, (parent_higher s T t (terms s) (omega arith) g).above))
      (λ g. omega (arith, few, (parent_higher s T t (terms s) (omega arith) g).inside)) in
      λ i. p i && eb i && (not (r i) || es i)

  -- by the tests that the code asks, one after the other
  abbrev signed_root : Bool
  signed_root = not (eqb (t + 1) c.terms) || is_sign s t

  module _ {n x : Bool} (en : n ≡ cond (eqb (t + 1) c.terms) (eqb (get_or l t 0) 0) (not (eqb (get_or l t 0) 0) && not (eqb (get_or l t 0) many_parents))) where
    pub parents_bad : n ≡ false → x ≡ false → x ≡ placed_ok s t
    parents_bad p e = e ∙ sym (ap (λ (b : Bool). b && signed_body s (format_at s t).second (second s t) && signed_root) p) ∙ place_is en refl refl

    module _ {body : Bool} (eb : body ≡ signed_body s (format_at s t).second (second s t)) (p : n ≡ true) where
      pub body_bad : body ≡ false → x ≡ false → x ≡ placed_ok s t
      body_bad q e = e ∙ sym (λ i. p i && q i && signed_root) ∙ place_is en eb refl

      pub sign_left : body ≡ true → x ≡ (not (eqb (t + 1) c.terms) || is_sign s t) → x ≡ placed_ok s t
      sign_left q e = e ∙ sym (λ i. p i && q i && signed_root) ∙ place_is en eb refl
