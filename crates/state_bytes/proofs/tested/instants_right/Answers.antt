-- `state_bytes::tested::instants_right` meets its contract: where all or-ed are in range, each is.
use Prim.Native.Nat.{ℕ, ◌+◌, ◌*◌, ◌≤◌, ◌<◌}
use mathlib.Core.Path.{◌≡◌, sym}
use mathlib.Core.Bool.{true}
use mathlib.Core.List.{List}
use native.Mathlib.Omega.{arith}
use borrow.Author.Tests.{le-leb}
use lib.Dec.{leb}
use Rattle.num.specs.Bytes.{number, part}
use Rattle.num.proofs.SearchLaws.{all-intro}
use Rattle.state_bytes.specs.Form.Stored.{latest}
use Rattle.state_bytes.specs.Form.Tested.{all_stored}
use Rattle.state_bytes.proofs.OrLaws.{or_left, or_right}
use Rattle.state_bytes.proofs.tested.instants_right.Goals as goal

all-below : (b : List ℕ) (at n top : ℕ) → ((k : ℕ) → k < n → number (part b (at + 4 * k) 4) ≤ top) → top ≤ latest → all_stored b at n ≡ true
all-below b at n top h l = all-intro (λ k. leb (number (part b (at + 4 * k) 4)) latest) n (λ k m. le-leb (number (part b (at + 4 * k) 4)) latest (omega (arith, h k m)))

pub returns-then-tops-le-LATEST : goal.returns-then-tops-le-LATEST
returns-then-tops-le-LATEST c =
    let b = c.args.b.now in
    let x = c.tops.result in
    let y = c.tops-2.result in
    sym (rw (all-below b 0 160 x c.tops.ensures (omega (arith, or_left x y)), all-below b 704 6 y c.tops-2.ensures (omega (arith, or_right x y))))

pub returns : goal.returns
returns c = rw (c.all_stored-2.ensures, c.all_stored.ensures)
