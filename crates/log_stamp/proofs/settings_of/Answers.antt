-- `settings_of` meets its contract: the part of the log that is lent is the stamp of block 0.
use Rattle.std.specs.Prelude.{Some}
use mathlib.Core.Path.{◌∙◌, sym, ap}
use borrow.Author.Tests.{eq-eqb, ne_eqb}
use Rattle.settings.specs.Settings.{settings_read}
use Rattle.log_stamp.proofs.StampLaws.{none-there, stamp-bytes}
use Rattle.log_stamp.proofs.settings_of.Goals as goal

pub returns-then-log-eq0 : goal.returns-then-log-eq0
returns-then-log-eq0 c = rw (eq-eqb _ 0 c.if-log-eq0.true) (ap Some (c.no_settings.ensures ∙ sym (none-there c.args.log.now c.requires c.if-log-eq0.true)))

pub returns : goal.returns
returns c =
    let a = c.args in
    rw (ne_eqb _ 0 c.if-log-eq0.false) (c.read_settings.ensures ∙ ap settings_read (stamp-bytes a.log.now 0))
