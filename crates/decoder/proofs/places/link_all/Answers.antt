-- A law for each shape: one `link` for each child, so that a term that stands k times among the children has t noted k times more.
-- `link` keeps the list's length, so that the later children are in it, too. A leaf has no children and changes nothing.
use lib.ListN.{length}
use Rattle.decoder.proofs.PlaceLaws.{by_shape, links_leaf, links_one, links_two, links_three, links_function, links_letrec}
use Rattle.decoder.proofs.places.link_all.Goals as goal

pub link-requires : goal.link-requires
link-requires c = (by_shape (length c.args.parents.now) c.in-One.is c.requires)

pub link-requires-in-Two : goal.link-requires-in-Two
link-requires-in-Two c = (by_shape (length c.args.parents.now) c.in-Two.is c.requires).first

pub link-requires-in-Three : goal.link-requires-in-Three
link-requires-in-Three c = (by_shape (length c.args.parents.now) c.in-Three.is c.requires).first

pub link-requires-in-Function : goal.link-requires-in-Function
link-requires-in-Function c = (by_shape (length c.args.parents.now) c.in-Function.is c.requires)

pub link-requires-in-Letrec : goal.link-requires-in-Letrec
link-requires-in-Letrec c = (by_shape (length c.args.parents.now) c.in-Letrec.is c.requires).first

pub returns-in-Leaf : goal.returns-in-Leaf
returns-in-Leaf c = links_leaf c.args.parents.now c.args.t c.in-Leaf.is

pub returns-in-One : goal.returns-in-One
returns-in-One c = links_one c.args.parents.now c.args.t c.link.new.parents _ c.in-One.is c.link.ensures

pub returns-in-Two : goal.returns-in-Two
returns-in-Two c =
    links_two c.args.parents.now c.args.t c.link-in-Two.new.parents c.link-in-Two-2.new.parents _ _ c.in-Two.is
    c.link-in-Two.auto.parents c.link-in-Two.ensures c.link-in-Two-2.ensures

pub returns-in-Three : goal.returns-in-Three
returns-in-Three c =
    links_three c.args.parents.now c.args.t c.link-in-Three.new.parents c.link-in-Three-2.new.parents c.link-in-Three-3.new.parents _ _ _
    c.in-Three.is c.link-in-Three.auto.parents c.link-in-Three-2.auto.parents c.link-in-Three.ensures c.link-in-Three-2.ensures c.link-in-Three-3.ensures

pub returns-in-Function : goal.returns-in-Function
returns-in-Function c = links_function c.args.parents.now c.args.t c.link-in-Function.new.parents _ c.in-Function.is c.link-in-Function.ensures

pub returns-in-Letrec : goal.returns-in-Letrec
returns-in-Letrec c =
    links_letrec c.args.parents.now c.args.t c.link-in-Letrec.new.parents c.link-in-Letrec-2.new.parents _ _ c.in-Letrec.is
    c.link-in-Letrec.auto.parents c.link-in-Letrec.ensures c.link-in-Letrec-2.ensures
