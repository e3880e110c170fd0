-- The record of a run: an entry more, and a full record.
use Rattle.std.specs.Prelude.{List, [], ◌∷◌, ◌++◌, ◌≡◌, ℕ, ◌+◌, ◌*◌, ◌/◌, ◌<◌, ◌≤◌, length, take, drop}
use Rattle.std.proofs.Common.{sym, ◌∙◌, arith, length-append, length-take, length-take-le, take_all, drop-drop}
use Rattle.std.proofs.Math.Seq.{length_front, take-append_seam, drop-append-add}
use Rattle.std.proofs.lemmas.List.{take-append-le}
use Rattle.program.specs.Bytes.{overwrite}
use Rattle.traces.specs.Traces.{Event, event_bytes, trace_bytes, recorded}
use Rattle.traces.proofs.Laws.Records.{bytes_length, bytes_append}
use Rattle.semantics.specs.Recording.{with_entries}

-- an entry behind those of a list
entry_behind : (l : List ℕ) (ds : List Event) (e : Event) (i : ℕ) → i ≡ length (trace_bytes ds)
    → overwrite (with_entries ds l) i (event_bytes e) ≡ with_entries (ds ++ e ∷ []) l
unfolding trace_bytes
entry_behind l ds e i q =
    let T : List ℕ = trace_bytes ds in
    let b : List ℕ = event_bytes e in
    let rest : List ℕ = drop (length T) l in
    let both : T ++ b ≡ trace_bytes (ds ++ e ∷ []) = sym (bytes_append ds (e ∷ [])) in
    (λ j. take (q j) (T ++ rest) ++ b ++ drop (q j + 4) (T ++ rest))
    ∙ (λ j. take-append_seam T rest j ++ b ++ (drop-append-add T rest 4 ∙ drop-drop 4 (length T) l) j)
    ∙ (λ j. T ++ b ++ drop (sym (length-append T b) j) l)
    ∙ (λ j. both j ++ drop (length (both j)) l)

module _ (l : List ℕ) where
  abbrev kept : List Event → List Event
  kept ds = recorded (length l) ds

  -- the record of a run that has decided these
  abbrev pub record_after : List Event → List ℕ
  record_after ds = with_entries (recorded (length l) ds) l

  pub length_record : (ds : List Event) → length (record_after ds) ≡ length l
  length_record ds =
      let bytes = trace_bytes (kept ds) in
      length_front l bytes (length bytes)
      (sym (length-take-le (length bytes) l (omega (arith, bytes_length (kept ds), length-take (length l / 4) ds))))

  module _ (ds : List Event) (e : Event) where
    pub entry_more : length ds < length l / 4 → length (recorded (length l) (ds ++ e ∷ [])) ≡ length (recorded (length l) ds) + 1
    entry_more h = omega (arith, length-take (length l / 4) (ds ++ e ∷ []), length-take (length l / 4) ds, length-append ds (e ∷ []))

    pub entry_made : length ds < length l / 4
        → overwrite (record_after ds) (4 * length (recorded (length l) ds)) (event_bytes e) ≡ record_after (ds ++ e ∷ [])
    entry_made h =
        let whole : kept ds ≡ ds = take_all (length l / 4) ds (omega arith) in
        let more : kept (ds ++ e ∷ []) ≡ ds ++ e ∷ [] = take_all (length l / 4) (ds ++ e ∷ []) (omega (arith, length-append ds (e ∷ []))) in
        (λ i. overwrite (with_entries (whole i) l) (4 * length (whole i)) (event_bytes e))
        ∙ entry_behind l ds e (4 * length ds) (sym (bytes_length ds)) ∙ λ i. with_entries (sym more i) l

    -- "a full record takes no more"
    pub full : length l / 4 ≤ length ds → recorded (length l) (ds ++ e ∷ []) ≡ recorded (length l) ds
    full h = take-append-le (length l / 4) ds (e ∷ []) h
