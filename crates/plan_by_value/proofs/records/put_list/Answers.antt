-- `plan_by_value::records::put_list` meets its contract: the records before i are put.
use mathlib.Core.Path.{◌∙◌, ap}
use native.Mathlib.Omega.{arith}
use lib.ListN.{length}
use Rattle.plan_by_value.proofs.RoomLaws.{put-none, put-turn, length-put}
use Rattle.plan_by_value.proofs.records.put_list.Goals as goal

pub loop-i-init : goal.loop-i-init
loop-i-init c = put-none _ _ _

pub put_record-requires : goal.put_record-requires
put_record-requires c =
    let k = c.loop-i in
    let n = ap length k.invariant ∙ length-put _ _ _ k.i (omega (arith, c.requires.1)) in
    (omega (arith, n, c.requires.1), c.requires.2)

pub shape_of-room : goal.shape_of-room
shape_of-room c =
    let k = c.loop-i in
    ap length k.invariant ∙ length-put _ _ _ k.i (omega (arith, c.requires.1))

pub loop-i-preserved : goal.loop-i-preserved
loop-i-preserved c =
    let k = c.loop-i in
    c.put_record.ensures ∙ rw k.invariant (put-turn c.args.s c.args.list c.args.room.now k.i (omega (arith, c.requires.1)))
