use Rattle.std.proofs.Common.{◌∙◌, ap, sym}
use Rattle.std.specs.Prelude.{option_map}
use Rattle.layout.specs.Bytes.{items_at}
use Rattle.layout.specs.Directory.{entry_at}
use Rattle.layout.proofs.Items.{stops, passes, at_end}
use Rattle.layout.proofs.dir_entries.behind_list.Goals as goal

pub returns-in_err-rest : goal.returns-in_err-rest
returns-in_err-rest c =
    ap (option_map (λ x. x.now)) c.from_residual.ensures
    ∙ sym (stops entry_at c.args.count c.entries.counter c.entries.rest.now (option_map (λ x. x.1) (items_at entry_at c.args.count c.args.bytes.now)) c.entries-test.true (sym c.in_err-rest.ensures) c.entries.invariant)

pub entries-preserved : goal.entries-preserved
entries-preserved c =
    passes entry_at c.args.count c.entries.counter c.entries.rest.now c.in_ok-rest.rest.now (option_map (λ x. x.1) (items_at entry_at c.args.count c.args.bytes.now)) c.entries-test.true (sym c.in_ok-rest.ensures) c.entries.invariant

pub returns : goal.returns
returns c =
    sym (at_end entry_at c.args.count c.entries.counter c.entries.rest.now (option_map (λ x. x.1) (items_at entry_at c.args.count c.args.bytes.now)) c.entries-test.false c.entries.invariant)
