-- A log that passes 13, 12 and 10 is judged by the rules alone.
-- Assumes nothing.
use Prim.Native.Nat.{ℕ, ◌%◌}
use mathlib.Core.Path.{◌≡◌}
use mathlib.Core.List.{List}
use borrow.Author.Tests.{eq-eqb}
use lib.ListN.{length}
use Rattle.settings.specs.declared.Settings.{Settings}
use Rattle.log_block.specs.Block.{list_of}
use Rattle.spec_rules.specs.Neighbour.{context_of}
use Rattle.spec_check.specs.Check.{records_of, rule_answer, records_answer, log_answer}
use Rattle.log_index.proofs.make.MakeLaws.{Passed}

pub rules-after : (s : Settings) (log : List ℕ) → length log % 512 ≡ 0 → Passed 15 s log → log_answer (context_of s) log ≡ rule_answer (context_of s) (records_of s (list_of log))
unfolding log_answer records_answer context_of
rules-after s log h p = rw (eq-eqb _ 0 h, eq-eqb _ _ p.right, eq-eqb _ _ p.good)
