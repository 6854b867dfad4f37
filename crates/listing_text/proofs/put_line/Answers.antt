-- `put_line` meets its contract: five pieces side by side are a line.
use native.Mathlib.Omega.{arith}
use Rattle.listing_text.specs.Text.{mask_text}
use Rattle.listing_text.proofs.TextLaws.{length-word, line-put}
use Rattle.listing_text.proofs.put_line.Goals as goal

pub put_number-c-requires : goal.put_number-c-requires
put_number-c-requires c = omega (arith, length-word c.args.name.now, c.put_number-a.ensures.1, c.put_number-a.auto.out, c.put_name-b.ensures.0, c.put_name-b.auto.out)

pub put_number-d-requires : goal.put_number-d-requires
put_number-d-requires c = omega (arith, length-word c.args.name.now, c.put_number-a.ensures.1, c.put_number-a.auto.out, c.put_name-b.ensures.0, c.put_name-b.auto.out, c.put_number-c.ensures.1, c.put_number-c.auto.out)

pub put_mask-requires : goal.put_mask-requires
put_mask-requires c = omega (arith, length-word c.args.name.now, c.put_number-a.ensures.1, c.put_number-a.auto.out, c.put_name-b.ensures.0, c.put_name-b.auto.out, c.put_number-c.ensures.1, c.put_number-c.auto.out, c.put_number-d.ensures.1, c.put_number-d.auto.out)

pub returns : goal.returns
returns c =
    let a = c.args in
    line-put a.out.now a.at a.instant a.name.now a.bank a.place (mask_text a.mask) (omega arith) (omega arith)
    c.put_number-a.ensures c.put_name-b.ensures c.put_number-c.ensures c.put_number-d.ensures c.put_mask.ensures
