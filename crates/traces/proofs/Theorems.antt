-- The theorems about records and their comparison, 02, W12: what each answer means, and which records of a run fit.
use Rattle.std.specs.Prelude.{Bool, ◌&&◌, List, ◌↔◌, ◌⊎◌, ◌≡◌, refl, ℕ, suc, ◌*◌, ◌/◌, ◌-◌, ◌<◌, ◌≤◌, length, take}
use Rattle.std.proofs.Math.Bool.{true, false}
use Rattle.std.proofs.Math.Logic.{inl, inr}
use Rattle.std.proofs.Common.{sym, ap, ◌∙◌, subst, arith, take_all, take-take}
use Rattle.std.proofs.Math.Decide.{dec_lt}
use Rattle.std.proofs.Math.Seq.{take-length}
use Rattle.privileges.specs.Booleans.{and_left, and_right, and_both}
use Rattle.program.specs.Bytes.{Bytes}
use Rattle.traces.specs.Traces.{Event, trace_bytes, recorded, well_formed_record, trace}
use Rattle.traces.specs.Comparing.{Subsequence, occurs, Comparison, refused, fits, diverges, compared, if_both, comparison}
use Rattle.traces.specs.Claims.{WellFormedRecord, Storable, Fits, Diverges}
use Rattle.traces.proofs.Laws.Subsequences.{whole, beginning, no_longer, occurs_decides}
use Rattle.traces.proofs.Laws.Greedy.{matched, placed_occurs, placed_least, compared_fits, compared_diverges}
use Rattle.traces.proofs.Laws.Records.{bytes_well_formed, bytes_trace, bytes_take, bytes_below, trace_back, well_formed_true, true_well_formed}

-- ---- subsequences

-- The test decides the relation.
pub decides : (u o : List Event) → (occurs u o ≡ true) ↔ Subsequence u o
decides u o = occurs_decides u o

-- ---- two lists of events
module _ (u o : List Event) where
  shorter_occurs : (j : ℕ) → j ≤ matched u o → Subsequence (take j u) o
  shorter_occurs j h = subst (λ (x : List Event). Subsequence x o) (take-take j (matched u o) u h) (beginning j (placed_occurs u o))

  all_placed : Subsequence u o → length u ≤ matched u o
  all_placed s = placed_least (length u) u o (omega arith) (subst (λ (x : List Event). Subsequence x o) (sym (take-length u)) s)

  -- It fits exactly if the unit's events occur there in that order, and the number missing is how many more the office has.
  pub compared_as_fits : (m : ℕ) → (compared u o ≡ fits m) ↔ Fits u o m
  compared_as_fits m = (λ e. there (dec_lt (matched u o) (length u)) e, back)
    where
      there : Dec (matched u o < length u) → compared u o ≡ fits m → Fits u o m
      there (yes h) e = let f : fits m ≡ diverges (matched u o) = sym e ∙ compared_diverges u o h in absurd (let z : ◌≡◌ {A = ℕ} 0 1 = cc in omega arith)
      there (no h) e =
          let s = subst (λ (x : List Event). Subsequence x o) (take_all (matched u o) u (omega arith)) (placed_occurs u o) in
          let f : fits (length o - length u) ≡ fits m = sym (compared_fits u o (omega arith)) ∙ e in
          let g : length o - length u ≡ m = cc in
          record { in_order_holds = s; missing_is = omega (arith, no_longer s) }

      back : Fits u o m → compared u o ≡ fits m
      back f =
          let e : length o - length u ≡ m = omega (arith, f.missing_is) in
          compared_fits u o (all_placed f.in_order_holds) ∙ ap fits e

  -- It diverges at k exactly if k is the first entry up to which the unit's do not occur.
  pub compared_as_diverges : (k : ℕ) → (compared u o ≡ diverges k) ↔ Diverges u o k
  compared_as_diverges k = (λ e. there (dec_lt (matched u o) (length u)) e, back)
    where
      there : Dec (matched u o < length u) → compared u o ≡ diverges k → Diverges u o k
      there (no h) e =
          let f : diverges k ≡ fits (length o - length u) = sym e ∙ compared_fits u o (omega arith) in
          absurd (let z : ◌≡◌ {A = ℕ} 0 1 = cc in omega arith)
      there (yes h) e =
          let f : diverges (matched u o) ≡ diverges k = sym (compared_diverges u o h) ∙ e in
          let g : matched u o ≡ k = cc in
          record {
            an_entry = omega arith;
            up_to = λ s. omega (arith, placed_least (suc k) u o (omega arith) s);
            shorter = λ j l. shorter_occurs j (omega arith);
          }

      back : Diverges u o k → compared u o ≡ diverges k
      back d =
          let least = placed_least k u o (omega (arith, d.an_entry)) (d.shorter k (omega arith)) in
          let most : (suc k ≤ matched u o → ⊥) = λ h. d.up_to (shorter_occurs (suc k) h) in
          let e : matched u o ≡ k = omega (arith, most) in
          compared_diverges u o (omega (arith, d.an_entry)) ∙ ap diverges e

-- ---- two records

-- The test of a record's form decides it.
pub well_formed_decides : (s : List ℕ) → (well_formed_record s ≡ true) ↔ WellFormedRecord s
well_formed_decides s = (well_formed_true s, true_well_formed s)

module _ (u o : List ℕ) where
  abbrev pub Both : Type 0
  Both = WellFormedRecord u × WellFormedRecord o

  both : (well_formed_record u && well_formed_record o) ≡ true → Both
  both w = (
    well_formed_true u (and_left (well_formed_record u) (well_formed_record o) w),
    well_formed_true o (and_right (well_formed_record u) (well_formed_record o) w),
  )

  as_compared : Both → comparison u o ≡ compared (trace u) (trace o)
  unfolding comparison
  as_compared b = λ i. if_both (and_both (true_well_formed u b.0) (true_well_formed o b.1) i) u o

  -- either both are well formed, or the answer is 34
  by_form : (b : Bool) → (well_formed_record u && well_formed_record o) ≡ b → Both ⊎ (comparison u o ≡ refused 34 0)
  unfolding comparison
  by_form true w = inl (both w)
  by_form false w = inr (λ i. if_both (w i) u o)

  never_refused : (c p : ℕ) → compared (trace u) (trace o) ≡ refused c p → ⊥
  never_refused c p e = go (dec_lt (matched (trace u) (trace o)) (length (trace u)))
    where
      go : Dec (matched (trace u) (trace o) < length (trace u)) → ⊥
      go (yes h) =
          let f : diverges (matched (trace u) (trace o)) ≡ refused c p = sym (compared_diverges (trace u) (trace o) h) ∙ e in
          let z : ◌≡◌ {A = ℕ} 0 1 = cc in
          omega arith
      go (no h) =
          let f : fits (length (trace o) - length (trace u)) ≡ refused c p = sym (compared_fits (trace u) (trace o) (omega arith)) ∙ e in
          let z : ◌≡◌ {A = ℕ} 0 1 = cc in
          omega arith

  -- "Either record with a part of an entry or a yes-or-no byte above 1 is 34"; there is no other refusal.
  pub refused_exactly : (c p : ℕ) → (comparison u o ≡ refused c p) ↔ ((Both → ⊥) × (c ≡ 34) × (p ≡ 0))
  refused_exactly c p = (λ e. there e, back)
    where
      not_both : comparison u o ≡ refused c p → Both → ⊥
      not_both e b = never_refused c p (sym (as_compared b) ∙ e)

      there : comparison u o ≡ refused c p → (Both → ⊥) × (c ≡ 34) × (p ≡ 0)
      there e = go (by_form (well_formed_record u && well_formed_record o) refl)
        where
          go : Both ⊎ (comparison u o ≡ refused 34 0) → (Both → ⊥) × (c ≡ 34) × (p ≡ 0)
          go (inl b) = absurd (not_both e b)
          go (inr f) = let g : refused c p ≡ refused 34 0 = sym e ∙ f in (not_both e, cc, cc)

      back : (Both → ⊥) × (c ≡ 34) × (p ≡ 0) → comparison u o ≡ refused c p
      back n = go (by_form (well_formed_record u && well_formed_record o) refl)
        where
          go : Both ⊎ (comparison u o ≡ refused 34 0) → comparison u o ≡ refused c p
          go (inl b) = absurd (n.0 b)
          go (inr f) = f ∙ (λ i. refused (sym n.1 i) (sym n.2 i))

  -- an answer that is no refusal is that of two well-formed records
  accepted : (x : Comparison) → (refused 34 0 ≡ x → ⊥) → (comparison u o ≡ x) → Both × (compared (trace u) (trace o) ≡ x)
  accepted x n e = go (by_form (well_formed_record u && well_formed_record o) refl)
    where
      go : Both ⊎ (comparison u o ≡ refused 34 0) → Both × (compared (trace u) (trace o) ≡ x)
      go (inl b) = (b, sym (as_compared b) ∙ e)
      go (inr f) = absurd (n (sym f ∙ e))

  pub fits_exactly : (m : ℕ) → (comparison u o ≡ fits m) ↔ (Both × Fits (trace u) (trace o) m)
  fits_exactly m = (there, λ f. as_compared f.0 ∙ (compared_as_fits (trace u) (trace o) m).1 f.1)
    where
      apart : refused 34 0 ≡ fits m → ⊥
      apart e = let z : ◌≡◌ {A = ℕ} 0 1 = cc in omega arith

      there : comparison u o ≡ fits m → Both × Fits (trace u) (trace o) m
      there e = let a = accepted (fits m) apart e in (a.0, (compared_as_fits (trace u) (trace o) m).0 a.1)

  pub diverges_exactly : (k : ℕ) → (comparison u o ≡ diverges k) ↔ (Both × Diverges (trace u) (trace o) k)
  diverges_exactly k = (there, λ f. as_compared f.0 ∙ (compared_as_diverges (trace u) (trace o) k).1 f.1)
    where
      apart : refused 34 0 ≡ diverges k → ⊥
      apart e = let z : ◌≡◌ {A = ℕ} 0 1 = cc in omega arith

      there : comparison u o ≡ diverges k → Both × Diverges (trace u) (trace o) k
      there e = let a = accepted (diverges k) apart e in (a.0, (compared_as_diverges (trace u) (trace o) k).0 a.1)

-- ---- the bytes of events

-- A record of events is read as those events, and is well formed; of events that fit into its entries it holds bytes.
pub record ReadBack (t : List Event) : Type 0 where
  pub well_formed : WellFormedRecord (trace_bytes t)
  pub same_events : trace (trace_bytes t) ≡ t

pub read_back : (t : List Event) → ReadBack t
read_back t = record { well_formed = well_formed_true (trace_bytes t) (bytes_well_formed t); same_events = bytes_trace t }

pub storable_bytes : {t : List Event} → Storable t → Bytes (trace_bytes t)
storable_bytes s = bytes_below s

-- Well-formed bytes are those of the events read from them, so that two such records are equal exactly if their events are.
pub same_bytes : (s : List ℕ) → Bytes s → WellFormedRecord s → trace_bytes (trace s) ≡ s
same_bytes s b w = trace_back s b (true_well_formed s w)

pub equal_records : (s t : List ℕ) → Bytes s → Bytes t → WellFormedRecord s → WellFormedRecord t → (trace s ≡ trace t) ↔ (s ≡ t)
equal_records s t b d w x = (λ e. sym (same_bytes s b w) ∙ ap trace_bytes e ∙ same_bytes t d x, ap trace)

-- ---- which records of a run fit

-- A recorder that drops events: what it keeps fits, and the number missing is how many it dropped.
pub dropped_fits : {kept all : List Event} → Subsequence kept all → comparison (trace_bytes kept) (trace_bytes all) ≡ fits (length all - length kept)
dropped_fits {kept} {all} s =
    as_compared (trace_bytes kept) (trace_bytes all) ((read_back kept).well_formed, (read_back all).well_formed)
    ∙ (λ i. compared (bytes_trace kept i) (bytes_trace all i))
    ∙ compared_fits kept all (all_placed kept all s)

-- A beginning of a record fits, and so does a record that was full earlier.
pub beginning_fits : (k : ℕ) (t : List Event) → comparison (take (4 * k) (trace_bytes t)) (trace_bytes t) ≡ fits (length t - length (take k t))
beginning_fits k t = ap (λ (x : List ℕ). comparison x (trace_bytes t)) (bytes_take k t) ∙ dropped_fits (beginning k (whole t))

pub fuller_fits : (room more : ℕ) (t : List Event) → room ≤ more
    → comparison (trace_bytes (recorded room t)) (trace_bytes (recorded more t)) ≡ fits (length (recorded more t) - length (recorded room t))
fuller_fits room more t h =
    dropped_fits (subst (λ (x : List Event). Subsequence x (recorded more t)) (take-take (room / 4) (more / 4) t (omega arith))
    (beginning (room / 4) (whole (recorded more t))))
