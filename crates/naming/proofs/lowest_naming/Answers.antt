-- The search from t on finds what the whole search finds (Seeking), since no term below t names p (seek_more). A term that does is the lowest (seek_here), and
-- past the last there is none (seek_past).
use Rattle.naming.proofs.NamingLaws.{naming_term, seek_start, seek_here, seek_more, seek_past}
use Rattle.naming.proofs.lowest_naming.Goals as goal

pub loop-t-init : goal.loop-t-init
loop-t-init c = seek_start c.args.s.now c.args.p

pub term_names-requires : goal.term_names-requires
term_names-requires c = naming_term c.requires c.requires.sheet.counts.terms_are c.loop-t-test.true

pub returns-then-term_names : goal.returns-then-term_names
returns-then-term_names c =
    seek_here c.args.s.now c.args.p c.requires.sheet.counts.terms_are c.loop-t.invariant c.loop-t-test.true
    c.term_names.ensures c.if-term_names.true

pub loop-t-preserved : goal.loop-t-preserved
loop-t-preserved c =
    seek_more c.args.s.now c.args.p c.requires.sheet.counts.terms_are c.loop-t.invariant c.loop-t-test.true
    c.term_names.ensures c.if-term_names.false

pub returns : goal.returns
returns c = seek_past c.args.s.now c.args.p c.requires.sheet.counts.terms_are c.loop-t.invariant c.loop-t-test.false
