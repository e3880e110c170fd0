-- The bytes of a record and its events: what is read back, what stands where, and when a record is well formed.
use Rattle.std.specs.Prelude.{Bool, true, false, ◌&&◌, List, [], ◌∷◌, ◌++◌, ◌≡◌, refl, ℕ, zero, suc, ◌+◌, ◌*◌, ◌/◌, ◌%◌, ◌<◌, ◌≤◌, eqb, leb, length, take, drop}
use Rattle.std.proofs.lemmas.Bool.{false≢true}
use Rattle.std.proofs.Common.{sym, ◌∙◌, div-add-mod', add-one, arith, drop-cons, leb-true, le-leb}
use Rattle.std.proofs.Math.Path.{ap}
use Rattle.privileges.specs.Booleans.{and_left, and_right, and_both}
use Rattle.program.specs.Bytes.{byte, Bytes, bit}
use Rattle.traces.specs.Traces.{Event, event_bytes, trace_bytes, event_of, event_at, well_formed_record, trace}
use Rattle.traces.specs.Claims.{WellFormedRecord, Storable, storable_none, storable_more}

-- ---- a record's events are those whose bytes it has
event_back : (e : Event) → event_of (e.term / 256) (e.term % 256) e.privilege (bit e.decided) ≡ e
event_back e = λ i. record { term = div-add-mod' e.term 256 i; privilege = e.privilege; decided = decision e.decided i }
  where
    decision : (b : Bool) → eqb (bit b) 1 ≡ b
    decision true = refl
    decision false = refl

decision_low : (b : Bool) → leb (bit b) 1 ≡ true
decision_low true = refl
decision_low false = refl

pub bytes_well_formed : (t : List Event) → well_formed_record (trace_bytes t) ≡ true
unfolding well_formed_record trace_bytes
bytes_well_formed [] = refl
bytes_well_formed (e ∷ t) = and_both (decision_low e.decided) (bytes_well_formed t)

pub bytes_trace : (t : List Event) → trace (trace_bytes t) ≡ t
unfolding trace trace_bytes
bytes_trace [] = refl
bytes_trace (e ∷ t) = λ i. event_back e i ∷ bytes_trace t i

pub bytes_length : (t : List Event) → length (trace_bytes t) ≡ 4 * length t
unfolding trace_bytes
bytes_length [] = refl
bytes_length (e ∷ t) = omega (arith, bytes_length t)

pub bytes_append : (s t : List Event) → trace_bytes (s ++ t) ≡ trace_bytes s ++ trace_bytes t
unfolding trace_bytes
bytes_append [] t = refl
bytes_append (e ∷ s) t = ap (λ (x : List ℕ). event_bytes e ++ x) (bytes_append s t)

-- the first bytes are those of the first events
pub bytes_take : (k : ℕ) (t : List Event) → take (4 * k) (trace_bytes t) ≡ trace_bytes (take k t)
unfolding trace_bytes
bytes_take zero [] = refl
bytes_take zero (e ∷ t) = refl
bytes_take (suc k) [] = let n : 4 * suc k ≡ suc (4 * k + 3) = omega arith in ap (λ (x : ℕ). take x (trace_bytes [])) n
bytes_take (suc k) (e ∷ t) =
    let n : 4 * suc k ≡ suc (suc (suc (suc (4 * k)))) = omega arith in
    ap (λ (x : ℕ). take x (trace_bytes (e ∷ t))) n
    ∙ ap (λ (x : List ℕ). e.term / 256 ∷ e.term % 256 ∷ e.privilege ∷ bit e.decided ∷ x) (bytes_take k t)

-- the entries of storable events hold bytes
pub bytes_below : {t : List Event} → Storable t → Bytes (trace_bytes t)
unfolding trace_bytes
bytes_below storable_none = record { below = λ i. omega arith }
bytes_below (storable_more {e} {t} h p s) = record { below = λ i. go (bytes_below s) i }
  where
    decision : (b : Bool) → bit b < 256
    decision true = omega arith
    decision false = omega arith

    go : Bytes (trace_bytes t) → (i : ℕ) → byte (trace_bytes (e ∷ t)) i < 256
    go b zero = omega arith
    go b (suc zero) = omega arith
    go b (suc (suc zero)) = p
    go b (suc (suc (suc zero))) = decision e.decided
    go b (suc (suc (suc (suc i)))) = b.below i

-- ---- and its bytes are those of its events
pub trace_back : (s : List ℕ) → Bytes s → well_formed_record s ≡ true → trace_bytes (trace s) ≡ s
unfolding well_formed_record trace trace_bytes
trace_back [] b w = refl
trace_back (h ∷ []) b w = absurd (false≢true w)
trace_back (h ∷ l ∷ []) b w = absurd (false≢true w)
trace_back (h ∷ l ∷ p ∷ []) b w = absurd (false≢true w)
trace_back (h ∷ l ∷ p ∷ d ∷ s) b w =
    λ i. high i ∷ low i ∷ p ∷ decision d (leb-true d 1 (and_left (leb d 1) (well_formed_record s) w)) i
    ∷ trace_back s (record { below = λ i. b.below (suc (suc (suc (suc i)))) }) (and_right (leb d 1) (well_formed_record s) w) i
  where
    high : (h * 256 + l) / 256 ≡ h
    high = omega (arith, b.below 1)

    low : (h * 256 + l) % 256 ≡ l
    low = omega (arith, b.below 1)

    decision : (d : ℕ) → d ≤ 1 → bit (eqb d 1) ≡ d
    decision zero h = refl
    decision (suc zero) h = refl
    decision (suc (suc d)) h = absurd (omega arith)

-- ---- what stands where
pub trace_length : (s : List ℕ) → length (trace s) ≡ length s / 4
unfolding trace
trace_length [] = refl
trace_length (h ∷ []) = omega arith
trace_length (h ∷ l ∷ []) = omega arith
trace_length (h ∷ l ∷ p ∷ []) = omega arith
trace_length (h ∷ l ∷ p ∷ d ∷ s) = omega (arith, trace_length s)

-- byte a of entry k
module _ (h l p d : ℕ) (s : List ℕ) where
  behind : (a k : ℕ) → byte (h ∷ l ∷ p ∷ d ∷ s) (4 * suc k + a) ≡ byte s (4 * k + a)
  behind a k = let e : 4 * suc k + a ≡ suc (suc (suc (suc (4 * k + a)))) = omega arith in ap (byte (h ∷ l ∷ p ∷ d ∷ s)) e

pub well_formed_true : (s : List ℕ) → well_formed_record s ≡ true → WellFormedRecord s
unfolding well_formed_record
well_formed_true [] w = record { whole_entries = refl; decisions = λ k g. absurd (omega arith) }
well_formed_true (h ∷ []) w = absurd (false≢true w)
well_formed_true (h ∷ l ∷ []) w = absurd (false≢true w)
well_formed_true (h ∷ l ∷ p ∷ []) w = absurd (false≢true w)
well_formed_true (h ∷ l ∷ p ∷ d ∷ s) w =
    let rest = well_formed_true s (and_right (leb d 1) (well_formed_record s) w) in
    record { whole_entries = omega (arith, rest.whole_entries); decisions = λ k g. go rest k g }
  where
    go : WellFormedRecord s → (k : ℕ) → 4 * k + 3 < length (h ∷ l ∷ p ∷ d ∷ s) → byte (h ∷ l ∷ p ∷ d ∷ s) (4 * k + 3) ≤ 1
    go rest zero g = leb-true d 1 (and_left (leb d 1) (well_formed_record s) w)
    go rest (suc k) g = omega (arith, behind h l p d s 3 k, rest.decisions k (omega arith))

pub true_well_formed : (s : List ℕ) → WellFormedRecord s → well_formed_record s ≡ true
unfolding well_formed_record
true_well_formed [] w = refl
true_well_formed (h ∷ []) w = absurd (omega (arith, w.whole_entries))
true_well_formed (h ∷ l ∷ []) w = absurd (omega (arith, w.whole_entries))
true_well_formed (h ∷ l ∷ p ∷ []) w = absurd (omega (arith, w.whole_entries))
true_well_formed (h ∷ l ∷ p ∷ d ∷ s) w = and_both (le-leb d 1 (w.decisions 0 (omega arith))) (true_well_formed s (record {
  whole_entries = omega (arith, w.whole_entries);
  decisions = λ k g. omega (arith, behind h l p d s 3 k, w.decisions (suc k) (omega arith));
}))

-- ---- the entry at a byte, for a walk over the bytes
module _ (s : List ℕ) (i : ℕ) (inside : i + 4 ≤ length s) where
  next_byte : (j k : ℕ) → j < length s → k ≡ j + 1 → drop j s ≡ byte s j ∷ drop k s
  next_byte j k h e = drop-cons s j 0 h ∙ ap (λ (x : ℕ). byte s j ∷ drop x s) (sym (add-one j) ∙ sym e)

  four_bytes : drop i s ≡ byte s i ∷ byte s (i + 1) ∷ byte s (i + 2) ∷ byte s (i + 3) ∷ drop (i + 4) s
  four_bytes =
      next_byte i (i + 1) (omega arith) refl
      ∙ ap (λ (x : List ℕ). byte s i ∷ x) (next_byte (i + 1) (i + 2) (omega arith) (omega arith))
      ∙ ap (λ (x : List ℕ). byte s i ∷ byte s (i + 1) ∷ x) (next_byte (i + 2) (i + 3) (omega arith) (omega arith))
      ∙ ap (λ (x : List ℕ). byte s i ∷ byte s (i + 1) ∷ byte s (i + 2) ∷ x) (next_byte (i + 3) (i + 4) (omega arith) (omega arith))

  pub trace_next : trace (drop i s) ≡ event_at s i ∷ trace (drop (i + 4) s)
  unfolding trace
  trace_next = ap trace four_bytes

  pub well_formed_next : well_formed_record (drop i s) ≡ (leb (byte s (i + 3)) 1 && well_formed_record (drop (i + 4) s))
  unfolding well_formed_record
  well_formed_next = ap well_formed_record four_bytes

-- of a well-formed record: a whole entry stands at each fourth byte, and its last byte is 0 or 1
module _ (s : List ℕ) (w : well_formed_record s ≡ true) (i : ℕ) (fourth : i % 4 ≡ 0) (inside : i < length s) where
  pub whole_entry : i + 4 ≤ length s
  whole_entry = omega (arith, (well_formed_true s w).whole_entries)

  pub decision_at : byte s (i + 3) ≤ 1
  decision_at =
      let e : i + 3 ≡ 4 * (i / 4) + 3 = omega arith in
      omega (arith, ap (byte s) e, (well_formed_true s w).decisions (i / 4) (omega (arith, whole_entry)))
