-- No readable sheet has more than 10,913 bytes; of a longer input one byte more is enough to read: it is refused like the whole input.
use Rattle.std.specs.Prelude.{Bool, true, false, cond, ◌||◌, List, [], ◌∷◌, ◌++◌, ◌≡◌, ℕ, ◌+◌, ◌*◌, ◌<◌, ◌≤◌, leb, length, take}
use Rattle.std.proofs.Common.{true≢false, sym, ap, ap₂, ◌∙◌, arith, length-take, take_all, get_or-take, eqb-true, le-leb, ne_eqb}
use Rattle.std.proofs.lemmas.Bool.{false≢true}
use Rattle.std.proofs.Math.Option.{none, some}
use Rattle.std.proofs.Math.Path.{refl}
use Rattle.std.proofs.Math.Decide.{dec_lt}
use Rattle.std.proofs.Math.Dec.{eqb}
use Rattle.program.specs.Limits.{max_principals, max_types, max_terms, max_channels, max_sheet1, max_sheet}
use Rattle.program.specs.Bytes.{byte, word16}
use Rattle.program.specs.Layout.{version, has_guards, type_field, term_field, guard_field, guard_at}
use Rattle.program.specs.Screening.{Condition, Screening, clear, found, refuse_at, screen, unless}
use Rattle.program.specs.Decoding.{holds, field, table_conditions, decoding, Readable}
use Rattle.program.proofs.Laws.Readable.{WholeRecords, counted, WellFormed, well_formed}
use Rattle.program.proofs.Laws.Guards.{without_guards}

-- ---- how long a sheet is
-- the papers' numbers
pub longest_is : (max_sheet1 ≡ 10894) × (max_sheet ≡ 10913)
longest_is = (refl, refl)

-- 02, W8: "The program reads up to 10,913 bytes."
pub length_most : (s : List ℕ) → Readable s → length s ≤ max_sheet
length_most s e = let w = well_formed s e in go w (has_guards s) w.whole
  where
    go : WellFormed s → (b : Bool) → cond b (guard_at s max_channels) (guard_field s) ≡ length s → length s ≤ max_sheet
    go w true h = omega arith
    go w false h = omega arith

-- 01: "at most 10,894 bytes"
pub version_1_length : (s : List ℕ) → Readable s → version s ≡ 1 → length s ≤ max_sheet1
version_1_length s e one =
    let w = well_formed s e in
    omega (arith, (without_guards s one).terms_last)

-- ---- what is found alike
unless_alike : (cause : ℕ) (a b : Bool) (xs ys : List Condition) → a ≡ b → (a ≡ true → screen xs ≡ screen ys)
    → screen (unless cause a ∷ xs) ≡ screen (unless cause b ∷ ys)
unfolding screen refuse_at
unless_alike cause true b xs ys e h = h refl ∙ λ i. refuse_at cause (cond (e i) none (some 0)) (λ _. screen ys)
unless_alike cause false b xs ys e h = λ i. refuse_at cause (cond (e i) none (some 0)) (λ _. screen ys)

-- Two inputs longer than any sheet, of which the first `max_sheet` bytes agree, are refused alike: no field reaches further, and both have bytes after the end.
module _ (s r : List ℕ) (s-long : max_sheet < length s) (r-long : max_sheet < length r) (same : (i : ℕ) → i < max_sheet → byte s i ≡ byte r i) where
  byte_alike : (i j : ℕ) → i ≡ j → i < max_sheet → byte s i ≡ byte r j
  byte_alike i j e l = same i l ∙ ap (byte r) e

  word_alike : (i j : ℕ) → i ≡ j → i + 1 < max_sheet → word16 s i ≡ word16 r j
  word_alike i j e l = ap₂ (λ (x y : ℕ). x * 256 + y) (byte_alike i j e (omega arith)) (byte_alike (i + 1) (j + 1) (omega arith) l)

  within_alike : (n m : ℕ) → n ≡ m → n ≤ max_sheet → leb n (length s) ≡ leb m (length r)
  within_alike n m e l = le-leb n (length s) (omega arith) ∙ sym (le-leb m (length r) (omega arith))

  -- a field whose records end in time, and what follows it
  field_alike : (i j tag size least most : ℕ) (xs ys : List Condition) → i ≡ j → i + 3 ≤ max_sheet
      → ((n : ℕ) → WholeRecords size least most n → i + 3 + n ≤ max_sheet)
      → (WholeRecords size least most (word16 s (i + 1)) → word16 s (i + 1) ≡ word16 r (j + 1) → screen xs ≡ screen ys)
      → screen (field s i tag (holds size least most) ++ xs) ≡ screen (field r j tag (holds size least most) ++ ys)
  field_alike i j tag size least most xs ys e l inside rest =
      let n : ℕ = word16 s (i + 1) in
      let w : n ≡ word16 r (j + 1) = word_alike (i + 1) (j + 1) (omega arith) (omega arith) in
      unless_alike 1 _ _ _ _ (within_alike (i + 3) (j + 3) (omega arith) l) λ _.
      unless_alike 2 _ _ _ _ (ap (λ (x : ℕ). eqb x tag) (byte_alike i j e (omega arith))) λ _.
      unless_alike 4 _ _ _ _ (ap (holds size least most) w) λ h.
      let c = counted size least most n h in
      unless_alike 1 _ _ _ _ (within_alike (i + 3 + n) (j + 3 + word16 r (j + 1)) (omega arith) (inside n c)) λ _. rest c w

  end_alike : (n m : ℕ) (xs ys : List Condition) → n ≤ max_sheet → m ≤ max_sheet
      → screen (unless 2 (eqb n (length s)) ∷ xs) ≡ screen (unless 2 (eqb m (length r)) ∷ ys)
  end_alike n m xs ys l k =
      unless_alike 2 _ _ _ _ (ne_eqb n (length s) (λ e. omega arith) ∙ sym (ne_eqb m (length r) (λ e. omega arith))) λ h.
      absurd (omega (arith, eqb-true n (length s) h))

  guards_alike : (g h : ℕ) (xs ys : List Condition) → g ≡ h → g ≤ max_sheet1 → (b c : Bool) → b ≡ c
      → screen ((cond b (field s g 5 (holds max_channels 1 1)) [] ++ unless 2 (eqb (cond b (g + 3 + max_channels) g) (length s)) ∷ []) ++ xs)
      ≡ screen ((cond c (field r h 5 (holds max_channels 1 1)) [] ++ unless 2 (eqb (cond c (h + 3 + max_channels) h) (length r)) ∷ []) ++ ys)
  guards_alike g h xs ys e l true true z =
      field_alike g h 5 max_channels 1 1 _ _ e (omega arith) (λ n c. omega arith) λ _ _. end_alike _ _ xs ys (omega arith) (omega arith)
  guards_alike g h xs ys e l false false z = end_alike _ _ xs ys (omega arith) (omega arith)
  guards_alike g h xs ys e l true false z = absurd (true≢false z)
  guards_alike g h xs ys e l false true z = absurd (false≢true z)

  pub longer_alike : decoding s ≡ decoding r
  unfolding decoding
  longer_alike =
      let v : version s ≡ version r = word_alike 3 3 refl (omega arith) in
      field_alike 0 0 1 2 1 1 _ _ refl (omega arith) (λ n c. omega arith) λ _ _.
      unless_alike 3 _ _ _ _ (ap (λ (x : ℕ). eqb x 1 || eqb x 2) v) λ _.
      field_alike 5 5 2 4 1 max_principals _ _ refl (omega arith) (λ n c. omega arith) λ p e.
      field_alike (type_field s) (type_field r) 3 10 2 max_types _ _ (omega arith) (omega arith) (λ n c. omega arith) λ q f.
      field_alike (term_field s) (term_field r) 4 8 1 max_terms _ _ (omega arith) (omega arith) (λ n c. omega arith) λ m g.
      guards_alike (guard_field s) (guard_field r) (table_conditions s) (table_conditions r) (omega arith) (omega arith) (has_guards s) (has_guards r)
      (ap (λ (x : ℕ). eqb x 2) v)

-- Of a longer input, what the reader says of its first 10,914 bytes is what it says of the whole: 01, "longer: it reads one byte more and the reader refuses".
pub cut_alike : (s : List ℕ) → decoding (take (max_sheet + 1) s) ≡ decoding s
cut_alike s = go (dec_lt max_sheet (length s))
  where
    go : Dec (max_sheet < length s) → decoding (take (max_sheet + 1) s) ≡ decoding s
    go (yes l) =
        longer_alike (take (max_sheet + 1) s) s (omega (arith, length-take (max_sheet + 1) s)) l (λ i h. get_or-take (max_sheet + 1) s i 0 (omega arith))
    go (no l) = ap decoding (take_all (max_sheet + 1) s (omega arith))

-- which is a refusal
pub longer_refused : (s : List ℕ) → max_sheet < length s → (c : ℕ) × (p : ℕ) × (decoding s ≡ found c p)
longer_refused s l = go (decoding s) refl
  where
    go : (x : Screening) → decoding s ≡ x → (c : ℕ) × (p : ℕ) × (decoding s ≡ found c p)
    go clear e = absurd (omega (arith, length_most s e))
    go (found c p) e = (c, p, e)
