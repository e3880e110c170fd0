-- Over ranges no sum or difference is counted as held.
use Rattle.std.specs.Prelude.{false, List, ◌≡◌, refl, ℕ}
use Rattle.std.proofs.Math.Option.{Option, none, some}
use Rattle.std.proofs.Common.{◌∙◌}
use Rattle.program.specs.Layout.{authority}
use Rattle.program.specs.Terms.{program}
use Rattle.traces.specs.Traces.{Event}
use Rattle.semantics.specs.Values.{empty, Budget, budget}
use Rattle.semantics.specs.Meaning.{Mode, count_saturated, note}
use Rattle.semantics.specs.Access.{privs, lazy_control, rights, eager_control}
use Rattle.semantics.specs.Runs.{Runner, eager, lazy, Request, Sizes, stack, initial, evaluation_over, left}
use Rattle.semantics.proofs.Laws.Budgets.{Steps, leaves_related}
use Rattle.semantics.proofs.Laws.Saturation.{saturated_in}
use Rattle.intervals.specs.Intervals.{intervals}
use Rattle.intervals.specs.Pairs.{over_intervals}

record NoneCounted (u v : Budget) : Type 0 where
  same : saturated_in v ≡ saturated_in u

follows : {u v w : Budget} → NoneCounted u v → NoneCounted v w → NoneCounted u w
follows a b = record { same = b.same ∙ a.same }

noted : (o : Option Event) (u : Budget) → NoneCounted u (note o u)
noted none u = record { same = refl }
noted (some e) (budget c d r l) = record { same = refl }

unchanged : (u : Budget) → NoneCounted u (count_saturated false u)
unchanged (budget c d r l) = record { same = refl }

uncounted_steps : Steps intervals NoneCounted
uncounted_steps = record {
  stays = λ u. record { same = refl };
  follows = follows;
  on_cell = λ c d r l. record { same = refl };
  on_call = λ c d r l. record { same = refl };
  on_post = λ c d r l ch n. record { same = refl };
  on_count = λ op m n u. unchanged u;
  on_note = noted;
}

pub evaluation_uncounted : (s ps : List ℕ) (M : Mode) (r : Runner) (q : Request) (z : Sizes)
    → saturated_in (left (evaluation_over (over_intervals s ps) M r s q z)) ≡ 0
evaluation_uncounted s ps M eager q z =
    (leaves_related intervals NoneCounted uncounted_steps (over_intervals s ps).literal (eager_control (authority s)) M q.depth (program s)
    (rights 0 (privs (authority s) (stack q.start))) empty (initial q z)).same
evaluation_uncounted s ps M lazy q z =
    (leaves_related intervals NoneCounted uncounted_steps (over_intervals s ps).literal (lazy_control (authority s)) M q.depth (program s)
    (stack q.start) empty
    (initial q z)).same
