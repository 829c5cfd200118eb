-- `wording::put_record` meets its contract.
use native.Mathlib.Omega.{arith}
use lib.ListN.{length, get_or}
use Rattle.wording.proofs.WordingLaws.{first_length, whole_kind, first_put}
use Rattle.wording.proofs.put_record.Goals as goal

pub kind_of-requires : goal.kind_of-requires
kind_of-requires c = let s = c.args.rec.now in whole_kind (get_or s 0 0) (length s) c.requires.nonzero

pub overflow_add-at : goal.overflow_add-at
overflow_add-at c = let k = c.kind_of.ensures in omega (arith, first_length c.args.rec.now c.requires.nonzero _ _ k.0 k.1, c.requires.rec_bound)

pub put_fields-requires-clause-body_bound : goal.put_fields-requires-clause-body_bound
put_fields-requires-clause-body_bound c = let k = c.kind_of.ensures in omega (arith, first_length c.args.rec.now c.requires.nonzero _ _ k.0 k.1, c.requires.rec_bound)

pub overflow_add-n : goal.overflow_add-n
overflow_add-n c = let k = c.kind_of.ensures in omega (arith, first_length c.args.rec.now c.requires.nonzero _ _ k.0 k.1, c.requires.rec_bound, c.put_fields.ensures.0)

pub overflow_add-at-2 : goal.overflow_add-at-2
overflow_add-at-2 c = let k = c.kind_of.ensures in omega (arith, first_length c.args.rec.now c.requires.nonzero _ _ k.0 k.1, c.requires.rec_bound, c.put_fields.ensures.0)

pub overflow_add-result : goal.overflow_add-result
overflow_add-result c = let k = c.kind_of.ensures in omega (arith, first_length c.args.rec.now c.requires.nonzero _ _ k.0 k.1, c.requires.rec_bound, c.put_fields.ensures.0)

pub returns : goal.returns
returns c =
    let a = c.args in
    let k = c.kind_of.ensures in
    let f = c.put_fields in
    first_put a.rec.now c.requires.nonzero _ _ k.0 k.1 a.at f.result a.out.now c.copy.new.out f.new.out c.put.new.out c.copy.ensures f.ensures.0 f.ensures.1 c.put.ensures
