-- The theorems of 02's W14 about the sheet with the numbers chosen: what its bytes are, that it is read exactly as the sheet is, that its plain run is the one
-- for this choice, and with it that a run over ranges contains "the plain run" of every sheet whose numbers lie between the limits.
use Rattle.std.specs.Prelude.{true, List, ◌↔◌, ◌≡◌, ℕ, ◌+◌, ◌<◌, length}
use Rattle.std.proofs.Math.Path.{refl}
use Rattle.std.proofs.Common.{sym, ◌∙◌, subst, arith}
use Rattle.program.specs.Bytes.{byte, Bytes}
use Rattle.program.specs.Layout.{principals, terms, term_at, first}
use Rattle.program.specs.Screening.{Screening, clear, found, screen}
use Rattle.program.specs.Decoding.{decoding, Readable}
use Rattle.program.proofs.Laws.Readable.{well_formed}
use Rattle.semantics.specs.Values.{Result}
use Rattle.semantics.specs.Meaning.{plain}
use Rattle.semantics.specs.Runs.{Request, Buffers, sizes, run_conditions, evaluation_over, evaluation, settled, after_course, course, run}
use Rattle.semantics.proofs.Laws.Starting.{clear_well}
use Rattle.intervals.specs.Pairs.{is_number}
use Rattle.intervals.specs.Runs.{interval_run}
use Rattle.intervals.specs.Claims.{Words, Choice, chosen, chosen_course, chosen_run, Contains, Decided}
use Rattle.intervals.specs.Choosing.{with_numbers}
use Rattle.intervals.proofs.Theorems.{contains}
use Rattle.intervals.proofs.Laws.Bytes.{alike, same_length, apart_kept, bytes_kept}
use Rattle.intervals.proofs.Laws.Reading.{same_conditions}
use Rattle.intervals.proofs.Laws.Replacing.{ReplacedResult}
use Rattle.intervals.proofs.Laws.Chosen.{number_first, same_run_conditions, start_known, evaluation_replaced, after_alike}

module _ (ρ : (term : ℕ) → ℕ) (s : List ℕ) where
  -- ---- Its bytes
  -- The number terms of a readable sheet have the numbers chosen; every other byte is as it was, whatever the bytes are.
  pub numbers_are : Readable s → (t : ℕ) → t < terms s → is_number s t ≡ true → first (with_numbers ρ s) t ≡ ρ t
  numbers_are r = number_first ρ s (well_formed s r)

  pub others_kept : (i : ℕ)
      → ((t : ℕ) → t < terms s → is_number s t ≡ true → (i ≡ term_at s t + 2 → ⊥) × (i ≡ term_at s t + 3 → ⊥))
      → byte (with_numbers ρ s) i ≡ byte s i
  others_kept i h = apart_kept ρ s i (λ t l e. let x = h t l e in (x.0, λ q. x.1 (q ∙ omega arith)))

  pub length_kept : length (with_numbers ρ s) ≡ length s
  length_kept = same_length ρ s

  -- numbers of 16 bits are written in bytes
  pub in_bytes : Bytes s → ((t : ℕ) → t < terms s → is_number s t ≡ true → ρ t < 65536) → Bytes (with_numbers ρ s)
  in_bytes b h = bytes_kept ρ s b (λ t e l. h t l e)

  -- ---- Its reading
  -- the same is found of both, whatever the bytes are
  pub reads_alike : decoding (with_numbers ρ s) ≡ decoding s
  unfolding decoding
  reads_alike = λ i. screen (same_conditions s (with_numbers ρ s) (alike ρ s) i)

  -- so that it is readable exactly if the sheet is
  pub readable_exactly : Readable (with_numbers ρ s) ↔ Readable s
  readable_exactly = (λ r. sym reads_alike ∙ r, λ r. reads_alike ∙ r)

  -- ---- Its run
  -- The plain run for a choice is the run of the sheet with the numbers chosen, by either runner, for every request and buffers and whatever the bytes are.
  pub run_with_numbers : (q : Request) (b : Buffers) → run (with_numbers ρ s) q b ≡ chosen_run (λ t n. ρ t) s q b
  unfolding run course chosen_run chosen_course
  run_with_numbers q b =
      (λ i. after_course (with_numbers ρ s) q b (settled (screen (same_run_conditions ρ s q (sizes b) i)) (λ _. y)))
      ∙ go (screen (run_conditions s q (sizes b))) refl
    where
      x : Result
      x = evaluation_over (chosen (λ t n. ρ t)) (plain q.enforce) q.runner s q (sizes b)

      y : Result
      y = evaluation q.runner (with_numbers ρ s) q (sizes b)

      like : screen (run_conditions s q (sizes b)) ≡ clear → ReplacedResult ρ (principals s) x y
      like e = evaluation_replaced ρ s (clear_well s q b e) q (sizes b) (start_known ρ s q (sizes b) e) q.runner

      go : (z : Screening) → screen (run_conditions s q (sizes b)) ≡ z
          → after_course (with_numbers ρ s) q b (settled z (λ _. y)) ≡ after_course s q b (settled z (λ _. x))
      go clear e = after_alike ρ s q b (like e)
      go (found c p) e = refl

-- ---- A run over ranges contains the plain runs
-- For every bytes and pairs of 16-bit numbers and all numbers ρ inside their pairs: "unless the run is refused or stops by 36, for every such choice the plain
-- run from the same stack, its checks treated alike, under the same allowances and buffers ends inside the answer or stops with the same cause and term, with
-- as many posts, each inside its range, and equal calls and cells". The buffers are of the same lengths, whatever they hold.
pub contains_plain : (s ps : List ℕ) → Words ps → (ρ : (term : ℕ) → ℕ) → Choice s ps (λ t n. ρ t) → (q : Request) (b d : Buffers) → sizes b ≡ sizes d
    → Decided (interval_run s ps q b) → Contains (interval_run s ps q b) (run (with_numbers ρ s) q d)
contains_plain s ps words ρ c q b d z h =
    subst (Contains (interval_run s ps q b)) (sym (run_with_numbers ρ s q d)) (contains s ps (λ t n. ρ t) words c q b d z h)
