-- A post gives and leaves what the definition says in each of its three ends: stuck, not made for another cause, or made.
use Rattle.std.proofs.Common.{length, arith}
use Rattle.machine.proofs.StepLaws.{cause_byte, cause_room, post_stuck, post_stopped, post_done_lem}
use Rattle.machine.proofs.steps.append.Goals as goal

pub returns-then-sort-ne1 : goal.returns-then-sort-ne1
returns-then-sort-ne1 c = post_stuck _ _ _ _ _ _ _ _ c.sort.ensures c.if-sort-ne1.true c.stop.ensures

pub returns-then-cause-ne0 : goal.returns-then-cause-ne0
returns-then-cause-ne0 c =
    post_stopped _ _ _ _ _ _ _ _ c.sort.ensures c.if-sort-ne1.false c.guard_passes-passes.ensures c.cause_of-cause.ensures
    c.if-cause-ne0.true c.stop-then-cause-ne0.ensures

pub overflow_cast-cause : goal.overflow_cast-cause
overflow_cast-cause c = omega (arith, cause_byte _ _ c.cause_of-cause.ensures)

pub offset_bounds-posts-at : goal.offset_bounds-posts-at
offset_bounds-posts-at c =
    omega (
      arith,
      cause_room _ c.args.counters.now.posts (length c.args.posts.now) c.cause_of-cause.ensures
          c.if-cause-ne0.false,
    )

pub bounds-posts-at : goal.bounds-posts-at
bounds-posts-at c =
    omega (
      arith,
      cause_room _ c.args.counters.now.posts (length c.args.posts.now) c.cause_of-cause.ensures
          c.if-cause-ne0.false,
    )

pub overflow_add-counters : goal.overflow_add-counters
overflow_add-counters c =
    omega (
      arith,
      cause_room _ c.args.counters.now.posts (length c.args.posts.now) c.cause_of-cause.ensures
          c.if-cause-ne0.false,
    )

pub returns : goal.returns
returns c =
    post_done_lem _ _ _ _ _ _ _ _ c.sort.ensures c.if-sort-ne1.false c.guard_passes-passes.ensures c.cause_of-cause.ensures
    c.if-cause-ne0.false c.listed.ensures
