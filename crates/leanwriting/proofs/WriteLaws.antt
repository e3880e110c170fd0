-- A buffer that is written one part after the other: what stands at a place, followed by what is written right behind it. Assumes nothing.
use mathlib.Core.Bool.{Bool, true, false}
use mathlib.Core.List.{List, [], ◌∷◌, ◌++◌, append_assoc}
use mathlib.Core.Path.{◌≡◌, refl, sym, ap, ◌∙◌}
use Prim.Native.Nat.{ℕ, suc, ◌+◌, ◌*◌, ◌<◌, ◌≤◌}
use native.Mathlib.Nat.{mul-le-mul_left}
use native.Mathlib.Numerals.{add-one}
use native.Mathlib.Omega.{arith}
use lib.ListN.{length, take, drop, get_or, set, length-append, length-drop}
use lib.Seq.{paste, paste-zero, paste-suc, length-take-le, take_all, take_at, drop-append-add, drop-drop}
use Rattle.program.specs.Bytes.{overwrite}
use Rattle.program.specs.Layout.{type_field, types, terms}
use Rattle.program.specs.declared.records.Counts.{Counts}
use Rattle.erasure.specs.Kept.{kept_below, gather}
use Rattle.erasure.specs.Lean.{kept_type, new_types, kept_term, new_terms, bytes16, type_bytes, term_bytes, lean_sheet}
use Rattle.erasure.proofs.Laws.Kept.{kept_most, kept_strict, kept_mono, gather_yes, gather_no, gather_length}
use Rattle.erasure.proofs.Laws.Bytes.{lean_size}
use Rattle.erasure.proofs.Laws.Types.{new_types_most}
use Rattle.erasure.proofs.Laws.Terms.{new_terms_most}
use Rattle.leanwriting.specs.Internal.{SheetReady}
use Rattle.renumbering.specs.declared.numbers.Numbers.{Numbers}
use Rattle.renumbering.proofs.TableLaws.{count_none, count_yes, count_no}

-- ---- one part after another
module _ (b : List ℕ) (at : ℕ) where
  pub over_none : b ≡ overwrite b at []
  over_none = paste-zero b at []

  module _ (xs : List ℕ) (h : at + length xs ≤ length b) where
    front_length : length (take at b ++ xs) ≡ at + length xs
    front_length = length-append (take at b) xs ∙ ap (λ (k : ℕ). k + length xs) (length-take-le at b (omega arith))

    pub over_length : length (overwrite b at xs) ≡ length b
    over_length =
        length-append (take at b ++ xs) (drop (at + length xs) b) ∙ omega (arith, front_length, length-drop (at + length xs) b)

    behind : (ys : List ℕ) → drop (at + length xs + length ys) (overwrite b at xs) ≡ drop (at + length xs + length ys) b
    behind ys =
        ap (λ (k : ℕ). drop (k + length ys) (overwrite b at xs)) (sym front_length)
        ∙ drop-append-add (take at b ++ xs) (drop (at + length xs) b) (length ys) ∙ drop-drop (length ys) (at + length xs) b

    pub over_more : (ys : List ℕ) {x : List ℕ} (place : ℕ) → x ≡ overwrite b at xs → place ≡ at + length xs → overwrite x place ys
        ≡ overwrite b at (xs ++ ys)
    over_more ys place e q =
        let both : at + length xs + length ys ≡ at + length (xs ++ ys) = omega (arith, length-append xs ys) in
        (λ i. overwrite (e i) (q i) ys)
        ∙ (λ i. take_at (take at b ++ xs) (drop (at + length xs) b) (at + length xs) front_length i ++ ys ++ behind ys i)
        ∙ (λ i. append_assoc (take at b) xs ys i ++ drop (both i) b)

-- ---- bytes that are copied one by one, the first i already
pub record Pasted (b : List ℕ) (at : ℕ) (bytes : List ℕ) (i : ℕ) (x : List ℕ) : Type 0 where
  pub below : i ≤ length bytes
  pub list_is : x ≡ paste b at bytes i

module _ (b : List ℕ) (at : ℕ) (bytes : List ℕ) (room : at + length bytes ≤ length b) (i : ℕ) {x : List ℕ} (P : Pasted b at bytes i x) where
  pub pasted_more : i < length bytes → Pasted b at bytes (i + 1) (set x (at + i) (get_or bytes i 0))
  pasted_more h = record {
    below = omega arith;
    list_is = ap (λ (y : List ℕ). set y (at + i) (get_or bytes i 0)) P.list_is ∙ paste-suc b at bytes i 0 (omega arith) (omega arith)
        ∙ ap (paste b at bytes) (sym (add-one i));
  }

  pub pasted_all : length bytes ≤ i → x ≡ overwrite b at bytes
  pasted_all h =
      let done : i ≡ length bytes = omega (arith, P.below) in
      P.list_is ∙ ap (paste b at bytes) done
      ∙ ap (λ (ys : List ℕ). take at b ++ ys ++ drop (at + length bytes) b) (take_all (length bytes) bytes (omega arith))

-- ---- the records of those that are kept, of one width
-- a place for all of them
pub record Gathering (keep : ℕ → Bool) (bytes : ℕ → List ℕ) (w : ℕ) (b : List ℕ) (at n : ℕ) : Type 0 where
  pub wide : (t : ℕ) → length (bytes t) ≡ w
  pub room : at + w * kept_below keep n ≤ length b

pub type_gathering : (s b : List ℕ) (at : ℕ) → at + 10 * new_types s ≤ length b → Gathering (kept_type s) (type_bytes s) 10 b at (types s)
unfolding new_types
type_gathering s b at h = record { wide = λ t. refl; room = h }

pub term_gathering : (s b : List ℕ) (at : ℕ) → at + 8 * new_terms s ≤ length b → Gathering (kept_term s) (term_bytes s) 8 b at (terms s)
unfolding new_terms
term_gathering s b at h = record { wide = λ t. refl; room = h }

-- of the first t, those that are kept stand in the list, and so many they are
pub record Gathered (keep : ℕ → Bool) (bytes : ℕ → List ℕ) (b : List ℕ) (at t count : ℕ) (x : List ℕ) : Type 0 where
  pub count_is : count ≡ kept_below keep t
  pub list_is : x ≡ overwrite b at (gather keep bytes t)

pub gathered_none : (keep : ℕ → Bool) (bytes : ℕ → List ℕ) (b : List ℕ) (at : ℕ) → Gathered keep bytes b at 0 0 b
unfolding gather
gathered_none keep bytes b at = record { count_is = count_none keep; list_is = over_none b at }

module _ {keep : ℕ → Bool} {bytes : ℕ → List ℕ} {w : ℕ} {b : List ℕ} {at n : ℕ} (G : Gathering keep bytes w b at n) {t count : ℕ} {x : List ℕ}
    (D : Gathered keep bytes b at t count x) where
  inside : t ≤ n → at + length (gather keep bytes t) ≤ length b
  inside h =
      let fewer : w * kept_below keep t ≤ w * kept_below keep n = mul-le-mul_left {m = kept_below keep t} {n = kept_below keep n} w (kept_mono keep t n h) in
      omega (arith, gather_length keep bytes w G.wide t, G.room)

  pub gathered_length : t ≤ n → length x ≡ length b
  gathered_length h = ap length D.list_is ∙ over_length b at (gather keep bytes t) (inside h)

  pub gathered_few : count ≤ t
  gathered_few = omega (arith, D.count_is, kept_most keep t)

  next : t + 1 ≡ suc t
  next = omega arith

  -- one more is kept: there is room for it behind the others
  module _ (h : t < n) (k : keep t ≡ true) where
    pub gathered_room : at + w * count + w ≤ length x
    gathered_room =
        let one : w * (kept_below keep t + 1) ≡ w * kept_below keep t + w = omega arith in
        let fewer : w * (kept_below keep t + 1) ≤ w * kept_below keep n =
        mul-le-mul_left {m = kept_below keep t + 1} {n = kept_below keep n} w (omega (arith, kept_strict keep t n k h)) in
        let same : w * count ≡ w * kept_below keep t = ap (λ (z : ℕ). w * z) D.count_is in
        omega (arith, gathered_length (omega arith), G.room)

    pub gathered_yes : {x' r : List ℕ} {count' : ℕ} → x' ≡ overwrite x (at + w * count) r → r ≡ bytes t → count' ≡ count + 1
        → Gathered keep bytes b at (t + 1) count' x'
    gathered_yes e q more = record {
      count_is = more ∙ count_yes keep t D.count_is k;
      list_is = e ∙ ap (overwrite x (at + w * count)) q
          ∙ over_more b at (gather keep bytes t) (inside (omega arith)) (bytes t) (at + w * count) D.list_is
          (ap (λ (z : ℕ). at + w * z) D.count_is ∙ ap (λ (z : ℕ). at + z) (sym (gather_length keep bytes w G.wide t)))
          ∙ ap (overwrite b at) (sym (gather_yes keep bytes w G.wide t k)) ∙ ap (λ (z : ℕ). overwrite b at (gather keep bytes z)) (sym next);
    }

  -- one is not
  pub gathered_no : {x' : List ℕ} {count' : ℕ} → keep t ≡ false → x' ≡ x → count' ≡ count → Gathered keep bytes b at (t + 1) count' x'
  gathered_no k same none = record {
    count_is = none ∙ count_no keep t D.count_is k;
    list_is = same ∙ D.list_is ∙ ap (overwrite b at) (sym (gather_no keep bytes w G.wide t k))
        ∙ ap (λ (z : ℕ). overwrite b at (gather keep bytes z)) (sym next);
  }

-- ---- the whole sheet
module _ (b A B C D E : List ℕ) (room : length (A ++ (B ++ C ++ (D ++ E))) ≤ length b) where
  sizes : length (A ++ (B ++ C ++ (D ++ E))) ≡ length A + length B + length C + length D + length E
  sizes =
      length-append A (B ++ C ++ (D ++ E)) ∙ omega (arith, length-append (B ++ C) (D ++ E), length-append B C, length-append D E)

  pub in_turn : {b₁ b₂ b₃ b₄ b₅ : List ℕ} (p q r t : ℕ) → b₁ ≡ overwrite b 0 A → b₂ ≡ overwrite b₁ p B → b₃ ≡ overwrite b₂ q C → b₄ ≡ overwrite b₃ r D
      → b₅ ≡ overwrite b₄ t E
      → p ≡ length A → q ≡ p + length B → r ≡ q + length C → t ≡ r + length D
      → b₅ ≡ A ++ (B ++ C ++ (D ++ E)) ++ drop (length (A ++ (B ++ C ++ (D ++ E)))) b
  in_turn p q r t e₁ e₂ e₃ e₄ e₅ h₁ h₂ h₃ h₄ =
      let l₂ = length-append A B in
      let l₃ = length-append (A ++ B) C in
      let l₄ = length-append (A ++ B ++ C) D in
      let f₂ = e₂ ∙ over_more b 0 A (omega (arith, sizes)) B p e₁ (omega arith) in
      let f₃ = e₃ ∙ over_more b 0 (A ++ B) (omega (arith, sizes)) C q f₂ (omega arith) in
      let f₄ = e₄ ∙ over_more b 0 (A ++ B ++ C) (omega (arith, sizes)) D r f₃ (omega arith) in
      let f₅ = e₅ ∙ over_more b 0 (A ++ B ++ C ++ D) (omega (arith, sizes)) E t f₄ (omega arith) in
      let same : A ++ B ++ C ++ D ++ E ≡ A ++ (B ++ C ++ (D ++ E)) = simp append_assoc in
      let start : (xs : List ℕ) → overwrite b 0 xs ≡ xs ++ drop (length xs) b = λ xs.
      let z : 0 + length xs ≡ length xs = omega arith in ap (λ (k : ℕ). xs ++ drop k b) z in
      f₅ ∙ ap (overwrite b 0) same ∙ start (A ++ (B ++ C ++ (D ++ E)))

-- its parts' places
module _ {s : List ℕ} {c : Counts} {y : Numbers 256} {m : Numbers 1024} (R : SheetReady s c y m) where
  pub size_is : 14 + 4 * c.principals + 10 * y.count + 8 * m.count ≡ length (lean_sheet s)
  size_is =
      omega (
        arith,
        lean_size s R.sheet.well_formed,
        R.sheet.counts.principals_are,
        R.types_numbered.count_is,
        R.terms_numbered.count_is,
      )

  -- it fits into two bytes
  pub size_small : 14 + 4 * c.principals + 10 * y.count + 8 * m.count < 65536
  size_small =
      let w = R.sheet.well_formed in
      omega (
        arith,
        R.sheet.counts.principals_are,
        R.types_numbered.count_is,
        R.terms_numbered.count_is,
        w.principals_most,
        w.types_most,
        w.terms_most,
        new_types_most s w,
        new_terms_most s w,
      )

  pub prefix_in : 8 + 4 * c.principals ≤ length s
  prefix_in = omega (arith, R.sheet.counts.principals_are, R.sheet.well_formed.terms_inside)

  module _ (b : List ℕ) (room : length (lean_sheet s) ≤ length b) where
    pub sheet_room : 14 + 4 * c.principals + 10 * y.count + 8 * m.count ≤ length b
    sheet_room = omega (arith, size_is)

    prefix_length : length (take (type_field s) s) ≡ type_field s
    prefix_length = length-take-le (type_field s) s (omega (arith, R.sheet.well_formed.terms_inside))

    types_length : length (gather (kept_type s) (type_bytes s) (types s)) ≡ 10 * new_types s
    unfolding new_types
    types_length = gather_length (kept_type s) (type_bytes s) 10 (λ t. refl) (types s)

    at_types : 8 + 4 * c.principals ≡ type_field s
    at_types = omega (arith, R.sheet.counts.principals_are)

    pub sheet_put : {b₁ b₂ b₃ b₄ b₅ : List ℕ} → b₁ ≡ overwrite b 0 (take (8 + 4 * c.principals) s)
        → b₂ ≡ overwrite b₁ (8 + 4 * c.principals) (3 ∷ bytes16 (10 * y.count))
        → b₃ ≡ overwrite b₂ (8 + 4 * c.principals + 3) (gather (kept_type s) (type_bytes s) (types s))
        → b₄ ≡ overwrite b₃ (8 + 4 * c.principals + 3 + 10 * y.count) (4 ∷ bytes16 (8 * m.count))
        → b₅ ≡ overwrite b₄ (8 + 4 * c.principals + 3 + 10 * y.count + 3) (gather (kept_term s) (term_bytes s) (terms s))
        → b₅ ≡ lean_sheet s ++ drop (length (lean_sheet s)) b
    unfolding lean_sheet
    sheet_put {b₁} {b₂} {b₃} {b₄} {b₅} e₁ e₂ e₃ e₄ e₅ =
        in_turn b (take (type_field s) s) (3 ∷ bytes16 (10 * new_types s)) (gather (kept_type s) (type_bytes s) (types s)) (4 ∷ bytes16 (8 * new_terms s))
        (gather (kept_term s) (term_bytes s) (terms s)) room
        (8 + 4 * c.principals) (8 + 4 * c.principals + 3) (8 + 4 * c.principals + 3 + 10 * y.count) (8 + 4 * c.principals + 3 + 10 * y.count + 3)
        (e₁ ∙ ap (λ (z : ℕ). overwrite b 0 (take z s)) at_types)
        (e₂ ∙ ap (λ (z : ℕ). overwrite b₁ (8 + 4 * c.principals) (3 ∷ bytes16 (10 * z))) R.types_numbered.count_is) e₃
        (e₄ ∙ ap (λ (z : ℕ). overwrite b₃ (8 + 4 * c.principals + 3 + 10 * y.count) (4 ∷ bytes16 (8 * z))) R.terms_numbered.count_is) e₅
        (at_types ∙ sym prefix_length) refl (omega (arith, R.types_numbered.count_is, types_length)) refl
