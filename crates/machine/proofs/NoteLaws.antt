-- What an entry of the record leaves: its four bytes, the counters, and what a full record leaves as it is. Assumes nothing.
use Rattle.std.proofs.Common.{◌≡◌, ℕ, zero, suc, ◌+◌, ◌*◌, ◌/◌, ◌%◌, ◌<◌, ◌≤◌, Bool, List, [], ◌∷◌, ◌++◌, length, take, drop, set, sym, refl, ap, ◌∙◌, append_assoc, arith, le-ltb, lt-ltb}
use Rattle.program.specs.Bytes.{overwrite, bit}
use Rattle.traces.specs.Traces.{Event, event_bytes}
use Rattle.machine.specs.declared.counters.Counters.{Counters}
use Rattle.machine.specs.Steps.{decided_event, note_counters, note_bytes, Noted}

-- four numbers that are set one after another
four_set : (l : List ℕ) (i a b c d : ℕ) → i + 4 ≤ length l
    → set (set (set (set l i a) (suc i) b) (suc (suc i)) c) (suc (suc (suc i))) d ≡ take i l ++ a ∷ b ∷ c ∷ d ∷ drop (suc (suc (suc (suc i)))) l
four_set [] i a b c d h = absurd (omega arith)
four_set (w ∷ []) zero a b c d h = absurd (omega arith)
four_set (w ∷ x ∷ []) zero a b c d h = absurd (omega arith)
four_set (w ∷ x ∷ y ∷ []) zero a b c d h = absurd (omega arith)
four_set (w ∷ x ∷ y ∷ z ∷ l) zero a b c d h = refl
four_set (w ∷ l) (suc i) a b c d h = ap (λ (s : List ℕ). w ∷ s) (four_set l i a b c d (omega arith))

module _ (l : List ℕ) (i t p : ℕ) (b : Bool) {y : ℕ} where
  pub entry_is : i + 4 ≤ length l → y ≡ bit b
      → set (set (set (set l i (t / 256)) (i + 1) (t % 256)) (i + 2) p) (i + 3) y ≡ overwrite l i (event_bytes (decided_event t p b))
  entry_is h e =
      let e₁ : i + 1 ≡ suc i = omega arith in
      let e₂ : i + 2 ≡ suc (suc i) = omega arith in
      let e₃ : i + 3 ≡ suc (suc (suc i)) = omega arith in
      let e₄ : suc (suc (suc (suc i))) ≡ i + length (event_bytes (decided_event t p b)) = omega arith in
      (λ k. set (set (set (set l i (t / 256)) (e₁ k) (t % 256)) (e₂ k) p) (e₃ k) (e k)) ∙ four_set l i (t / 256) (t % 256) p (bit b) h
      ∙ sym (append_assoc (take i l) (event_bytes (decided_event t p b)) (drop (suc (suc (suc (suc i)))) l))
      ∙ ap (λ (j : ℕ). take i l ++ event_bytes (decided_event t p b) ++ drop j l) e₄

module _ (e : Event) (n : Counters) (l : List ℕ) where
  pub note_made : {l' : List ℕ} → n.entries < length l / 4 → l' ≡ overwrite l (4 * n.entries) (event_bytes e)
      → Noted e n l (record n { entries = n.entries + 1 }) l'
  unfolding note_counters note_bytes
  note_made h q = record {
    counters_are = sym (simp (lt-ltb n.entries (length l / 4) h));
    bytes_are = q ∙ sym (simp (lt-ltb n.entries (length l / 4) h));
  }

  pub note_full : length l / 4 ≤ n.entries → Noted e n l n l
  unfolding note_counters note_bytes
  note_full h = record {
    counters_are = sym (simp (le-ltb n.entries (length l / 4) h));
    bytes_are = sym (simp (le-ltb n.entries (length l / 4) h));
  }
