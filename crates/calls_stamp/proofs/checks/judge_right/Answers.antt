-- `judge_right` meets its contract: the walk meets the records of the list.
use mathlib.Core.Path.{◌∙◌, ap}
use native.Mathlib.Omega.{arith}
use Rattle.spec_rules.specs.Neighbour.{context_of}
use Rattle.spec_check.specs.Check.{rule_answer}
use Rattle.check_list.proofs.WalkLaws.{log-via, log-within, log-formed, log-few}
use Rattle.log_stamp.proofs.StampLaws.{fourteen}
use Rattle.calls_stamp.proofs.checks.judge_right.Goals as goal

pub records_in-requires : goal.records_in-requires
records_in-requires c =
    record {
      log_value = c.requires.log_value;
    }

pub judge_all-requires : goal.judge_all-requires
judge_all-requires c =
    let a = c.args in
    let log = a.log.now in
    let n = c.records_in.ensures in
    record {
      n_bound = rw n (omega (arith, log-few 14 fourteen log c.requires.log_value), omega arith, λ h. omega arith);
      by_index = rw n (log-within 14 fourteen log c.requires.log_value);
      by_index_2 = rw n (log-formed a.s 14 fourteen log c.requires.log_value c.requires.list_value);
    }

pub returns : goal.returns
returns c =
    let a = c.args in
    rw c.records_in.ensures at c.judge_all.ensures ∙ ap (rule_answer (context_of a.s)) (log-via a.s 14 fourteen a.log.now c.requires.log_value)
