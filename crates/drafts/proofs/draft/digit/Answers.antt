-- Below 16, `digit` gives the definition's character: the test n < 10 chooses between the same sums. They are at most 55 + 15, so they fit a byte.
use borrow.Author.Tests.{lt-ltb, le-ltb}
use Rattle.drafts.proofs.draft.digit.Goals as goal

pub returns-then-n-lt10 : goal.returns-then-n-lt10
returns-then-n-lt10 c = simp (lt-ltb _ _ c.if-n-lt10.true)

pub returns-else-n-lt10 : goal.returns-else-n-lt10
returns-else-n-lt10 c = simp (le-ltb _ _ c.if-n-lt10.false)
