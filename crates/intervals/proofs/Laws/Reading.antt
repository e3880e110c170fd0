-- Sheets that differ in the numbers of number terms alone are read alike: their counts and places are the same, and the reader finds the same of both. A
-- number is never looked at by the reader. Types are sought in ascending order, so that those below one have been found in order.
use Rattle.std.specs.Prelude.{Bool, true, false, not, cond, ◌&&◌, ◌||◌, List, [], ◌∷◌, ◌++◌, ◌≡◌, refl, ℕ, zero, suc, ◌+◌, ◌*◌, ◌-◌, ◌/◌, ◌<◌, ◌≤◌, leb, ltb, eqb}
use Rattle.std.proofs.Common.{sym, ap, ◌∙◌, arith, ltb-true, ltb-false, le-ltb, eqb-true}
use Rattle.std.proofs.Math.Decide.{ℕ_discrete}
use Rattle.privileges.specs.Booleans.{and_left, and_right}
use Rattle.program.specs.Limits.{max_principals, max_types, max_terms, max_channels, no_guard, max_type_depth, max_nesting}
use Rattle.program.specs.Tests.{also, or_else}
use Rattle.program.specs.Bytes.{byte, word16, word32}
use Rattle.program.specs.Layout.{version, has_guards, principals, authority, type_field, types, type_at, term_field, terms, term_at, guard_field, guard_at, sheet_end, channels, guard_byte, guard_in, guard_of, root, kind_byte, small, first, second, third, types_of}
use Rattle.program.specs.Formats.{Part, unused, flag, any_number, privilege, principal, channel, function_type, child, body_child, kind_of, format}
use Rattle.program.specs.Screening.{onward, lowest, unless, seek}
use Rattle.program.specs.Decoding.{holds, field, base_ok, function_ok, shallow, same_bytes, fresh, type_ok, part_ok, format_at, term_ok, child_count, times_in, times_below, is_sign, signed_body, placed_ok, parent, nested_in, guard_ok, field_conditions, table_conditions, decoding_conditions, is_guard}
use Rattle.intervals.specs.Pairs.{is_number}
use Rattle.intervals.proofs.Laws.Bytes.{SameButNumbers}

-- tests that agree on each number if all lower ones pass fail first at the same
lowest_alike : (ok ok' : ℕ → Bool) (i n : ℕ) → ((y : ℕ) → y < i → ok y ≡ true)
    → ((x : ℕ) → x < i + n → ((y : ℕ) → y < x → ok y ≡ true) → ok' x ≡ ok x) → lowest ok' i n ≡ lowest ok i n
lowest_alike ok ok' i zero passed h = refl
lowest_alike ok ok' i (suc n) passed h =
    (λ k. onward (h i (omega arith) passed k) i (λ _. lowest ok' (suc i) n)) ∙ go (ok i) refl (λ p. lowest_alike ok ok' (suc i) n p (λ x l. h x (omega arith)))
  where
    go : (b : Bool) → ok i ≡ b → (((y : ℕ) → y < suc i → ok y ≡ true) → lowest ok' (suc i) n ≡ lowest ok (suc i) n)
        → onward b i (λ _. lowest ok' (suc i) n) ≡ onward b i (λ _. lowest ok (suc i) n)
    go true e rest = rest (λ y l. elim (ℕ_discrete y i) [ yes q ↦ ap ok q ∙ e | no q ↦ passed y (omega arith) ])
    go false e rest = refl

module _ (s s' : List ℕ) (a : SameButNumbers s s') where
  -- ---- counts and places
  word_front : (i : ℕ) → i + 1 < term_field s + 3 → word16 s' i ≡ word16 s i
  word_front i h = λ k. a.front i (omega arith) k * 256 + a.front (i + 1) h k

  pub same_version : version s' ≡ version s
  same_version = word_front 3 (omega arith)

  pub same_principals : principals s' ≡ principals s
  same_principals = λ i. word_front 6 (omega arith) i / 4

  same_type_field : type_field s' ≡ type_field s
  same_type_field = λ i. 8 + 4 * same_principals i

  same_types : types s' ≡ types s
  same_types = (λ i. word16 s' (same_type_field i + 1) / 10) ∙ (λ i. word_front (type_field s + 1) (omega arith) i / 10)

  same_type_at : (t : ℕ) → type_at s' t ≡ type_at s t
  same_type_at t = λ i. same_type_field i + 3 + 10 * t

  same_term_field : term_field s' ≡ term_field s
  same_term_field = λ i. same_type_field i + 3 + 10 * same_types i

  pub same_terms : terms s' ≡ terms s
  same_terms = (λ i. word16 s' (same_term_field i + 1) / 8) ∙ (λ i. word_front (term_field s + 1) (omega arith) i / 8)

  pub same_term_at : (t : ℕ) → term_at s' t ≡ term_at s t
  same_term_at t = λ i. same_term_field i + 3 + 8 * t

  pub same_root : root s' ≡ root s
  same_root = λ i. same_terms i - 1

  -- ---- records
  pub same_kind : (t : ℕ) → kind_byte s' t ≡ kind_byte s t
  same_kind t = (λ i. byte s' (same_term_at t i)) ∙ a.kinds t

  pub same_small : (t : ℕ) → small s' t ≡ small s t
  same_small t = (λ i. byte s' (same_term_at t i + 1)) ∙ a.smalls t

  pub same_first : (t : ℕ) → is_number s t ≡ false → first s' t ≡ first s t
  same_first t n = (λ i. word16 s' (same_term_at t i + 2)) ∙ a.firsts t n

  pub same_second : (t : ℕ) → second s' t ≡ second s t
  same_second t = (λ i. word16 s' (same_term_at t i + 4)) ∙ a.seconds t

  pub same_third : (t : ℕ) → third s' t ≡ third s t
  same_third t = (λ i. word16 s' (same_term_at t i + 6)) ∙ a.thirds t

  pub same_authority : (n : ℕ) → n < principals s → authority s' n ≡ authority s n
  same_authority n h = λ i. word_front (8 + 4 * n) (omega arith) i * 65536 + word_front (8 + 4 * n + 2) (omega arith) i

  -- ---- guards
  same_guards : has_guards s' ≡ has_guards s
  same_guards = λ i. eqb (same_version i) 2

  same_guard_field : guard_field s' ≡ guard_field s
  same_guard_field = (λ i. term_at s' (same_terms i)) ∙ same_term_at (terms s)

  guard_byte_lem : (c : ℕ) → byte s' (guard_at s' c) ≡ byte s (guard_at s c)
  guard_byte_lem c = (λ i. byte s' (same_guard_field i + 3 + c)) ∙ a.behind (guard_at s c) (omega arith)

  same_guard_byte : (c : ℕ) → guard_byte s' c ≡ guard_byte s c
  same_guard_byte c = λ i. cond (same_guards i) (guard_byte_lem c i) no_guard

  pub same_guard_of : (c : ℕ) → guard_of s' c ≡ guard_of s c
  same_guard_of c = λ i. guard_in (same_guard_byte c i)

  same_channels : channels s' ≡ channels s
  same_channels = λ i. cond (same_guards i) max_channels 1

  same_end : sheet_end s' ≡ sheet_end s
  same_end = λ i. cond (same_guards i) (same_guard_field i + 3 + max_channels) (same_guard_field i)

  -- ---- 1 to 4
  field_alike : (o' o tag : ℕ) (ok : ℕ → Bool) → o' ≡ o → byte s' o ≡ byte s o → word16 s' (o + 1) ≡ word16 s (o + 1)
      → field s' o' tag ok ≡ field s o tag ok
  field_alike o' o tag ok e b w =
      (λ i. field s' (e i) tag ok)
      ∙ λ i. unless 1 (leb (o + 3) (a.lengths i)) ∷ unless 2 (eqb (b i) tag) ∷ unless 4 (ok (w i)) ∷ unless 1 (leb (o + 3 + w i) (a.lengths i)) ∷ []

  front_field : (o' o tag : ℕ) (ok : ℕ → Bool) → o' ≡ o → o + 2 < term_field s + 3 → field s' o' tag ok ≡ field s o tag ok
  front_field o' o tag ok e h = field_alike o' o tag ok e (a.front o (omega arith)) (word_front (o + 1) (omega arith))

  guard_field_lem : field s' (guard_field s') 5 (holds max_channels 1 1) ≡ field s (guard_field s) 5 (holds max_channels 1 1)
  guard_field_lem =
      field_alike (guard_field s') (guard_field s) 5 (holds max_channels 1 1) same_guard_field (a.behind (guard_field s) (omega arith))
      (λ i. a.behind (guard_field s + 1) (omega arith) i * 256 + a.behind (guard_field s + 1 + 1) (omega arith) i)

  same_fields : field_conditions s' ≡ field_conditions s
  same_fields =
      λ i. front_field 0 0 1 (holds 2 1 1) refl (omega arith) i ++ unless 3 (eqb (same_version i) 1 || eqb (same_version i) 2)
      ∷ front_field 5 5 2 (holds 4 1 max_principals) refl (omega arith) i
      ++ front_field (type_field s') (type_field s) 3 (holds 10 2 max_types) same_type_field (omega arith) i
      ++ front_field (term_field s') (term_field s) 4 (holds 8 1 max_terms) same_term_field (omega arith) i ++ cond (same_guards i) (guard_field_lem i) []
      ++ unless 2 (eqb (same_end i) (a.lengths i)) ∷ []

  -- ---- 5
  type_byte : (t j : ℕ) → t < types s → j < 10 → byte s' (type_at s' t + j) ≡ byte s (type_at s t + j)
  type_byte t j l h = (λ i. byte s' (same_type_at t i + j)) ∙ a.front (type_at s t + j) (omega arith)

  type_word : (t j : ℕ) → t < types s → j < 9 → word16 s' (type_at s' t + j) ≡ word16 s (type_at s t + j)
  type_word t j l h = (λ i. word16 s' (same_type_at t i + j)) ∙ word_front (type_at s t + j) (omega arith)

  type_kind : (t : ℕ) → t < types s → byte s' (type_at s' t) ≡ byte s (type_at s t)
  type_kind t l = (λ i. byte s' (same_type_at t i)) ∙ a.front (type_at s t) (omega arith)

  type_latent : (t : ℕ) → t < types s → (types_of s').latent t ≡ (types_of s).latent t
  type_latent t l =
      (λ i. word32 s' (same_type_at t i + 6))
      ∙ λ i. word_front (type_at s t + 6) (omega arith) i * 65536 + word_front (type_at s t + 6 + 2) (omega arith) i

  same_base : (t : ℕ) → t < types s → base_ok s' t ≡ base_ok s t
  same_base t l =
      λ i. eqb (type_kind t l i) t && eqb (type_byte t 1 l (omega arith) i) 0 && eqb (type_word t 2 l (omega arith) i) 0
      && eqb (type_word t 4 l (omega arith) i) 0 && eqb (type_latent t l i) 0

  same_function : (t : ℕ) → t < types s → function_ok s' t ≡ function_ok s t
  same_function t l =
      λ i. eqb (type_kind t l i) 2 && eqb (type_byte t 1 l (omega arith) i) 0 && ltb (type_word t 2 l (omega arith) i) t
      && ltb (type_word t 4 l (omega arith) i) t

  same_same_bytes : (u t n : ℕ) → u < types s → t < types s → n ≤ 10
      → same_bytes s' (type_at s' u) (type_at s' t) n ≡ same_bytes s (type_at s u) (type_at s t) n
  same_same_bytes u t zero lu lt h = refl
  same_same_bytes u t (suc n) lu lt h =
      λ i. eqb (type_byte u n lu (omega arith) i) (type_byte t n lt (omega arith) i) && same_same_bytes u t n lu lt (omega arith) i

  same_fresh : (t n : ℕ) → t < types s → n ≤ t → fresh s' t n ≡ fresh s t n
  same_fresh t zero l h = refl
  same_fresh t (suc u) l h = λ i. not (same_same_bytes u t 10 (omega arith) l (omega arith) i) && same_fresh t u l (omega arith) i

  -- the parts of a type are lower, and so are theirs
  abbrev Lowered : (t : ℕ) → Type 0
  Lowered t = (u : ℕ) → u < t + 1 → 2 ≤ u → ((types_of s).arg u < u) × ((types_of s).res u < u)

  same_shallow : (k t : ℕ) → t < types s → Lowered t → shallow s' k t ≡ shallow s k t
  same_shallow zero t l d = refl
  same_shallow (suc k) t l d = go (ltb t 2) refl (λ x h. same_shallow k x (omega arith) (λ u g. d u (omega arith)))
    where
      go : (z : Bool) → ltb t 2 ≡ z → ((x : ℕ) → x < t → shallow s' k x ≡ shallow s k x)
          → or_else z (λ _. also (shallow s' k ((types_of s').arg t)) (λ _. shallow s' k ((types_of s').res t)))
          ≡ or_else z (λ _. also (shallow s k ((types_of s).arg t)) (λ _. shallow s k ((types_of s).res t)))
      go true e rest = refl
      go false e rest =
          let p = d t (omega arith) (ltb-false t 2 e) in
          (λ i. also (shallow s' k (type_word t 2 l (omega arith) i)) (λ _. shallow s' k (type_word t 4 l (omega arith) i)))
          ∙ λ i. also (rest ((types_of s).arg t) p.0 i) (λ _. rest ((types_of s).res t) p.1 i)

  function_lowered : (u : ℕ) → function_ok s u ≡ true → ((types_of s).arg u < u) × ((types_of s).res u < u)
  function_lowered u h = (
    ltb-true ((types_of s).arg u) u (search (h, and_left, and_right)),
    ltb-true ((types_of s).res u) u (search (h, and_left, and_right)),
  )

  type_function : (u : ℕ) → 2 ≤ u → type_ok s u ≡ true → function_ok s u ≡ true
  type_function u l h =
      let ok : (function_ok s u && shallow s max_type_depth u && fresh s u u) ≡ true =
      (λ i. cond (sym (le-ltb u 2 l) i) (base_ok s u) (function_ok s u && shallow s max_type_depth u && fresh s u u)) ∙ h in
      and_left (function_ok s u) (shallow s max_type_depth u) (and_left (function_ok s u && shallow s max_type_depth u) (fresh s u u) ok)

  same_type : (t : ℕ) → t < types s → ((u : ℕ) → u < t → type_ok s u ≡ true) → type_ok s' t ≡ type_ok s t
  same_type t l passed = go (ltb t 2) refl (function_ok s t) refl
    where
      lowered : function_ok s t ≡ true → Lowered t
      lowered g u h m = elim (ℕ_discrete u t) [
        | yes q ↦ function_lowered u (ap (function_ok s) q ∙ g)
        | no q ↦ function_lowered u (type_function u m (passed u (omega arith)))
      ]

      go : (z : Bool) → ltb t 2 ≡ z → (f : Bool) → function_ok s t ≡ f
          → cond z (base_ok s' t) (function_ok s' t && shallow s' max_type_depth t && fresh s' t t)
          ≡ cond z (base_ok s t) (function_ok s t && shallow s max_type_depth t && fresh s t t)
      go true e f g = same_base t l
      go false e false g =
          (λ i. (same_function t l ∙ g) i && shallow s' max_type_depth t && fresh s' t t) ∙ sym (λ i. g i && shallow s max_type_depth t && fresh s t t)
      go false e true g = λ i. same_function t l i && same_shallow max_type_depth t l (lowered g) i && same_fresh t t l (omega arith) i

  -- ---- 6
  same_format : (t : ℕ) → format_at s' t ≡ format_at s t
  same_format t = λ i. format (kind_of (same_kind t i))

  part_same : (t : ℕ) (p : Part) (x : ℕ) → part_ok s' t p x ≡ part_ok s t p x
  part_same t unused x = refl
  part_same t flag x = refl
  part_same t any_number x = refl
  part_same t privilege x = refl
  part_same t principal x = λ i. ltb x (same_principals i)
  part_same t channel x = λ i. ltb x (same_channels i)
  part_same t function_type x = λ i. leb 2 x && ltb x (same_types i)
  part_same t child x = refl
  part_same t body_child x = refl

  same_part : (t : ℕ) {p' p : Part} {x' x : ℕ} → p' ≡ p → x' ≡ x → part_ok s' t p' x' ≡ part_ok s t p x
  same_part t {p = p} {x = x} e f = (λ i. part_ok s' t (e i) (f i)) ∙ part_same t p x

  -- a number may be any, and is no child
  number_format : (t : ℕ) → is_number s t ≡ true → (format_at s t).first ≡ any_number
  number_format t e = λ i. (format (kind_of (eqb-true (kind_byte s t) 1 e i))).first

  first_part : (t : ℕ) → part_ok s' t (format_at s' t).first (first s' t) ≡ part_ok s t (format_at s t).first (first s t)
  first_part t = go (is_number s t) refl
    where
      go : (b : Bool) → is_number s t ≡ b → part_ok s' t (format_at s' t).first (first s' t) ≡ part_ok s t (format_at s t).first (first s t)
      go true e =
          (λ i. part_ok s' t (same_format t i).first (first s' t)) ∙ (λ i. part_ok s' t (number_format t e i) (first s' t))
          ∙ sym (λ i. part_ok s t (number_format t e i) (first s t))
      go false e = same_part t (λ i. (same_format t i).first) (same_first t e)

  same_term : (t : ℕ) → term_ok s' t ≡ term_ok s t
  same_term t =
      λ i. leb (same_kind t i) 14 && same_part t (λ j. (same_format t j).small) (same_small t) i && first_part t i
      && same_part t (λ j. (same_format t j).second) (same_second t) i && same_part t (λ j. (same_format t j).third) (same_third t) i

  -- ---- 7
  first_counts : (x t : ℕ) → child_count (format_at s' t).first (first s' t) x ≡ child_count (format_at s t).first (first s t) x
  first_counts x t = go (is_number s t) refl
    where
      go : (b : Bool) → is_number s t ≡ b → child_count (format_at s' t).first (first s' t) x ≡ child_count (format_at s t).first (first s t) x
      go true e =
          (λ i. child_count (same_format t i).first (first s' t) x) ∙ (λ i. child_count (number_format t e i) (first s' t) x)
          ∙ sym (λ i. child_count (number_format t e i) (first s t) x)
      go false e = λ i. child_count (same_format t i).first (same_first t e i) x

  same_times : (x t : ℕ) → times_in s' x t ≡ times_in s x t
  same_times x t =
      λ i. first_counts x t i + child_count (same_format t i).second (same_second t i) x + child_count (same_format t i).third (same_third t i) x

  same_below : (x n : ℕ) → times_below s' x n ≡ times_below s x n
  same_below x zero = refl
  same_below x (suc t) = λ i. same_times x t i + same_below x t i

  same_sign : (t : ℕ) → is_sign s' t ≡ is_sign s t
  same_sign t = λ i. eqb (same_kind t i) 9

  same_signed : (p : Part) (x : ℕ) → signed_body s' p x ≡ signed_body s p x
  same_signed unused x = refl
  same_signed flag x = refl
  same_signed any_number x = refl
  same_signed privilege x = refl
  same_signed principal x = refl
  same_signed channel x = refl
  same_signed function_type x = refl
  same_signed child x = refl
  same_signed body_child x = same_sign x

  same_placed : (t : ℕ) → placed_ok s' t ≡ placed_ok s t
  same_placed t =
      let times = (λ i. times_below s' t (same_terms i)) ∙ same_below t (terms s) in
      let body = (λ i. signed_body s' (same_format t i).second (same_second t i)) ∙ same_signed (format_at s t).second (second s t) in
      λ i. eqb (times i) (cond (eqb t (same_root i)) 0 1) && body i && (not (eqb t (same_root i)) || same_sign t i)

  -- ---- 8
  same_parent : (x n : ℕ) → parent s' x n ≡ parent s x n
  same_parent x zero = refl
  same_parent x (suc t) = λ i. elim (eqb (same_times x t i) 0) [ true ↦ same_parent x t i | false ↦ t ]

  same_nested : (k t : ℕ) → nested_in s' k t ≡ nested_in s k t
  same_nested zero t = refl
  same_nested (suc k) t =
      let up = (λ i. parent s' t (same_terms i)) ∙ same_parent t (terms s) in
      (λ i. or_else (eqb t (same_root i)) (λ _. nested_in s' k (up i))) ∙ λ i. or_else (eqb t (root s)) (λ _. same_nested k (parent s t (terms s)) i)

  -- ---- 31
  same_guard : (c : ℕ) → guard_ok s' c ≡ guard_ok s c
  same_guard c = λ i. is_guard (same_guard_byte c i)

  -- ---- all of them
  found_5 : lowest (type_ok s') 0 (types s') ≡ lowest (type_ok s) 0 (types s)
  found_5 =
      (λ i. lowest (type_ok s') 0 (same_types i))
      ∙ lowest_alike (type_ok s) (type_ok s') 0 (types s) (λ y h. absurd (omega arith)) (λ t l passed. same_type t (omega arith) passed)

  same_tables : table_conditions s' ≡ table_conditions s
  same_tables =
      λ i. record { cause = 5; found = λ _. found_5 i } ∷ seek 6 (λ t. same_term t i) (same_terms i) ∷ seek 7 (λ t. same_placed t i) (same_terms i)
      ∷ seek 8 (λ t. same_nested max_nesting t i) (same_terms i) ∷ seek 31 (λ c. same_guard c i) max_channels ∷ []

  pub same_conditions : decoding_conditions s' ≡ decoding_conditions s
  same_conditions = λ i. same_fields i ++ same_tables i
