-- What the loops of a comparison keep, and what each of its answers says.
use mathlib.Core.Bool.{Bool, true, false, cond, ◌&&◌, false≢true}
use mathlib.Core.List.{List, ◌∷◌}
use mathlib.Core.Path.{◌≡◌, sym, ap, ◌∙◌, subst}
use Prim.Native.Nat.{ℕ, suc, ◌+◌, ◌/◌, ◌%◌, ◌-◌, ◌<◌, ◌≤◌}
use native.Mathlib.Omega.{arith}
use lib.Dec.{leb}
use lib.ListN.{length, drop}
use lib.Seq.{drop-length}
use borrow.Author.Tests.{le-leb, lt-leb}
use Rattle.privileges.specs.Booleans.{bool_ext}
use Rattle.program.specs.Bytes.{byte}
use Rattle.traces.specs.Traces.{Event, event_at, well_formed_record, trace}
use Rattle.traces.specs.Comparing.{same_event, refused, fits, diverges, compared, if_both, comparison}
use Rattle.traces.proofs.Laws.Greedy.{matched, placed_none, placed_room, compared_fits, compared_diverges}
use Rattle.traces.proofs.Laws.Records.{trace_length, well_formed_true, trace_next, well_formed_next, whole_entry, decision_at}
use Rattle.compare.specs.Internal.{EntryAt, TwoFormed, matched_entries}

-- ---- the form of a record: the entries before byte i are well formed
pub record Formed (s : List ℕ) (i : ℕ) : Type 0 where
  pub fourth : i % 4 ≡ 0
  pub within : i ≤ length s
  pub so_far : well_formed_record s ≡ well_formed_record (drop i s)

module _ (s : List ℕ) where
  pub not_whole : (length s % 4 ≡ 0 → ⊥) → false ≡ well_formed_record s
  not_whole n = sym (bool_ext (well_formed_record s) false (λ w. absurd (n (well_formed_true s w).whole_entries)) (λ q. absurd (false≢true q)))

  module _ (whole : length s % 4 ≡ 0) (i : ℕ) (f : Formed s i) (inside : i < length s) where
    pub room : i + 4 ≤ length s
    room = omega (arith, f.fourth)

    next : (b : Bool) → leb (byte s (i + 3)) 1 ≡ b → well_formed_record s ≡ (b && well_formed_record (drop (i + 4) s))
    next b e = f.so_far ∙ well_formed_next s i room ∙ ap (λ (x : Bool). x && well_formed_record (drop (i + 4) s)) e

    pub above_one : 1 < byte s (i + 3) → false ≡ well_formed_record s
    above_one h = sym (next false (lt-leb (byte s (i + 3)) 1 h))

    pub formed_more : byte s (i + 3) ≤ 1 → Formed s (i + 4)
    formed_more h = record { fourth = omega (arith, f.fourth); within = room; so_far = next true (le-leb (byte s (i + 3)) 1 h) }

  pub formed_all : (i : ℕ) → Formed s i → length s ≤ i → true ≡ well_formed_record s
  unfolding well_formed_record
  formed_all i f h =
      let e : i ≡ length s = omega (arith, f.within) in
      sym (f.so_far ∙ ap (λ (x : ℕ). well_formed_record (drop x s)) e ∙ ap well_formed_record (drop-length s))

-- ---- placing the entries: those of the unit before byte i are placed before byte j of the office's record
pub record Placing (u o : List ℕ) (i j : ℕ) : Type 0 where
  pub unit_whole : i % 4 ≡ 0
  pub office_whole : j % 4 ≡ 0
  pub unit_within : i ≤ length u
  pub office_within : j ≤ length o
  pub so_far : i / 4 + matched (trace (drop i u)) (trace (drop j o)) ≡ matched_entries u o

placed_step : (e f : Event) (t x : List Event) (b : Bool) → same_event e f ≡ b → matched (e ∷ t) (f ∷ x) ≡ cond b (suc (matched t x)) (matched (e ∷ t) x)
unfolding matched
placed_step e f t x b q = λ k. cond (q k) (suc (matched t x)) (matched (e ∷ t) x)

module _ (u o : List ℕ) where
  pub placing_all : (i j : ℕ) → Placing u o i j → i ≡ length u → i / 4 ≡ matched_entries u o
  unfolding matched trace
  placing_all i j p e =
      let x : matched (trace (drop i u)) (trace (drop j o)) ≡ 0 =
      λ k. matched (trace ((ap (λ (n : ℕ). drop n u) e ∙ drop-length u) k)) (trace (drop j o)) in
      omega (arith, x, p.so_far)

  pub placing_end : (i j : ℕ) → Placing u o i j → length o ≤ j → i / 4 ≡ matched_entries u o
  unfolding trace
  placing_end i j p h =
      let e : j ≡ length o = omega (arith, p.office_within) in
      let x : matched (trace (drop i u)) (trace (drop j o)) ≡ 0 =
      (λ k. matched (trace (drop i u)) (trace ((ap (λ (n : ℕ). drop n o) e ∙ drop-length o) k))) ∙ placed_none (trace (drop i u)) in
      omega (arith, x, p.so_far)

  module _ (f : TwoFormed u o) (i j : ℕ) (p : Placing u o i j) (more : i ≡ length u → ⊥) (inside : j < length o) where
    left : i < length u
    left = omega (arith, more, p.unit_within)

    pub unit_entry : EntryAt u i
    unit_entry = record { inside = whole_entry u f.of_unit i p.unit_whole left; decision = decision_at u f.of_unit i p.unit_whole left }

    pub office_entry : EntryAt o j
    office_entry = record {
      inside = whole_entry o f.of_office j p.office_whole inside;
      decision = decision_at o f.of_office j p.office_whole inside;
    }

    step : (b : Bool) → same_event (event_at u i) (event_at o j) ≡ b → matched (trace (drop i u)) (trace (drop j o))
        ≡ cond b (suc (matched (trace (drop (i + 4) u)) (trace (drop (j + 4) o)))) (matched (event_at u i ∷ trace (drop (i + 4) u)) (trace (drop (j + 4) o)))
    step b q =
        (λ k. matched (trace_next u i unit_entry.inside k) (trace_next o j office_entry.inside k))
        ∙ placed_step (event_at u i) (event_at o j) (trace (drop (i + 4) u)) (trace (drop (j + 4) o)) b q

    pub placing_same : {i' : ℕ} → same_event (event_at u i) (event_at o j) ≡ true → i' ≡ i + 4 → Placing u o i' (j + 4)
    placing_same q e = subst (λ (x : ℕ). Placing u o x (j + 4)) (sym e) (record {
      unit_whole = omega (arith, p.unit_whole);
      office_whole = omega (arith, p.office_whole);
      unit_within = unit_entry.inside;
      office_within = office_entry.inside;
      so_far = omega (arith, step true q, p.so_far);
    })

    pub placing_other : {i' : ℕ} → same_event (event_at u i) (event_at o j) ≡ false → i' ≡ i → Placing u o i' (j + 4)
    placing_other q e =
        let x = step false q ∙ ap (λ (l : List Event). matched l (trace (drop (j + 4) o))) (sym (trace_next u i unit_entry.inside)) in
        subst (λ (x : ℕ). Placing u o x (j + 4)) (sym e) (record {
          unit_whole = p.unit_whole;
          office_whole = omega (arith, p.office_whole);
          unit_within = p.unit_within;
          office_within = office_entry.inside;
          so_far = omega (arith, x, p.so_far);
        })

-- ---- the answers
module _ (u o : List ℕ) where
  pub malformed_unit : false ≡ well_formed_record u → refused 34 0 ≡ comparison u o
  unfolding comparison
  malformed_unit h = λ i. if_both (h i && well_formed_record o) u o

  pub malformed_office : true ≡ well_formed_record u → false ≡ well_formed_record o → refused 34 0 ≡ comparison u o
  unfolding comparison
  malformed_office g h = λ i. if_both (g i && h i) u o

  module _ (g : true ≡ well_formed_record u) (h : true ≡ well_formed_record o) where
    as_compared : compared (trace u) (trace o) ≡ comparison u o
    unfolding comparison
    as_compared = λ i. if_both (g i && h i) u o

    pub as_diverges : {k : ℕ} → k ≡ matched_entries u o → k < length u / 4 → diverges k ≡ comparison u o
    as_diverges e l =
        ap diverges e ∙ sym (compared_diverges (trace u) (trace o) (omega (arith, trace_length u))) ∙ as_compared

    pub as_fits : {k : ℕ} → k ≡ matched_entries u o → length u / 4 ≤ k → fits (length o / 4 - length u / 4) ≡ comparison u o
    as_fits e l =
        (λ i. fits (sym (trace_length o) i - sym (trace_length u) i)) ∙ sym (compared_fits (trace u) (trace o) (omega (arith, trace_length u))) ∙ as_compared

  -- no more entries are placed than the office has
  pub enough : {k : ℕ} → k ≡ matched_entries u o → length u / 4 ≤ k → length u / 4 ≤ length o / 4
  enough e l = omega (arith, trace_length u, trace_length o, placed_room (trace u) (trace o))
