-- `put_count` meets its contract: the word, the digits and one byte more.
use mathlib.Core.Path.{refl, ◌∙◌}
use mathlib.Core.List.{[], ◌∷◌, ◌++◌, append_assoc}
use native.Mathlib.Omega.{arith}
use lib.ListN.{length-append, length-set}
use Rattle.listing_text.specs.Text.{decimal, line_end}
use Rattle.listing_text.proofs.TextLaws.{put_then, put-more, decimal-length}
use Rattle.listing_text.proofs.put_count.Goals as goal

pub put_decimal-end-requires : goal.put_decimal-end-requires
put_decimal-end-requires c =
    let n = decimal-length c.args.n (omega arith) in
    omega (arith, n, c.put_bytes.auto.out)

pub bounds-out-end : goal.bounds-out-end
bounds-out-end c =
    let n = decimal-length c.args.n (omega arith) in
    omega (arith, n, c.put_bytes.auto.out, c.put_decimal-end.ensures.0, c.put_decimal-end.auto.out)

pub overflow_add-result : goal.overflow_add-result
overflow_add-result c =
    let n = decimal-length c.args.n (omega arith) in
    omega (arith, n, c.put_bytes.auto.out, c.put_decimal-end.ensures.0)

pub shape_of-out : goal.shape_of-out
shape_of-out c = length-set c.put_decimal-end.new.out c.put_decimal-end.result 10 ∙ c.put_decimal-end.auto.out ∙ c.put_bytes.auto.out

pub returns : goal.returns
returns c =
    let a = c.args in
    let l = a.out.now in
    let x = a.word.now in
    let n = decimal-length a.n (omega arith) in
    let p = put_then l a.at x (decimal a.n) (omega arith) (refl, c.put_bytes.ensures) c.put_decimal-end.ensures in (
      rw (← append_assoc x (decimal a.n) (line_end ∷ [])) (put-more l a.at (x ++ decimal a.n) line_end (simp length-append (omega (arith, n))) p),
      omega (arith, n, c.put_decimal-end.ensures.0),
    )
