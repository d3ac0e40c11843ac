use Rattle.std.proofs.Common.{◌≡◌, ◌∙◌, ℕ, List, true, false, inl, inr, length, sym, ap, subst, refl, arith}
use Rattle.std.proofs.lemmas.Result.{err_from_is_err_and}
use Rattle.tier_device.specs.declared.media.Tier.{Tier}
use Rattle.tier_device.specs.declared.media.Tier.TheVariants.{Fast}
use Rattle.layout.specs.Bytes.{are_zero}
use Rattle.layout.specs.declared.error.What.TheVariants as what
use Rattle.batch_journal.specs.declared.error.JournalError.{JournalError}
use Rattle.batch_journal.specs.declared.error.JournalError.TheVariants as errors
use Rattle.batch_journal.specs.Images.{slice}
use Rattle.batch_journal.specs.Blocks.{is_gate_open, rest_of_gate}
use Rattle.batch_journal.specs.Volume.{Spells}
use Rattle.batch_journal.specs.Damage.{HasNoSuper}
use Rattle.batch_journal.proofs.Courses.{unmoved_on, left_before, tiers_same, if_ok, if_err, on_damage}
use Rattle.batch_journal.proofs.Opens.{tells_other, tells_as, tells_on, unmoved_same, opens_err, opens_after, opens_geometry}
use Rattle.batch_journal.proofs.journal_open.open_medium.Goals as goal

pub returns-then-size-lt-END : goal.returns-then-size-lt-END
returns-then-size-lt-END g c =
    let m = g.M.Media in
    let old = c.args.media.now in
    let f = m.faults old in
    let e : JournalError = errors.Damaged what.Super 0 in
    opens_err f f (unmoved_same (m.moment old) (m.seen old) (m.left old)) c.requires e (tells_other f f e (λ is. absurd cc) refl) (inr (inr (record { structure = refl; place = refl; none = inl (omega (arith, c.size.ensures, c.if-size-lt-END.true)) }))) (λ is. absurd cc) (λ is. absurd cc)

pub open_replayed-requires-clause-size : goal.open_replayed-requires-clause-size
open_replayed-requires-clause-size g c =
    omega (arith, c.size.ensures, c.if-size-lt-END.false, ap length (c.read_gate.ensures.unmoved.reads Fast))

pub open_replayed-requires-clause-rest : goal.open_replayed-requires-clause-rest
open_replayed-requires-clause-rest g c x l =
    let un = c.read_gate.ensures.unmoved in
    c.requires x (left_before un Fast x l) ∙ sym (un.reads Fast)

pub open_replayed-requires-clause-opened : goal.open_replayed-requires-clause-opened
open_replayed-requires-clause-opened g c =
    let opened : is_gate_open (g.M.Media.seen c.args.media.now Fast) ≡ true = sym c.in_ok-read_gate.ensures.gate ∙ c.if-branch.true in
    subst (λ (s : List ℕ). is_gate_open s ≡ true) (sym (c.read_gate.ensures.unmoved.reads Fast)) opened

pub open_replayed-requires-clause-gate : goal.open_replayed-requires-clause-gate
open_replayed-requires-clause-gate g c =
    subst (λ (s : List ℕ). are_zero (rest_of_gate s) ≡ true) (sym (c.read_gate.ensures.unmoved.reads Fast)) c.in_ok-read_gate.ensures.rest

pub returns-then-branch : goal.returns-then-branch
returns-then-branch g c =
    let m = g.M.Media in
    opens_after (m.faults c.args.media.now) (m.faults c.read_gate.new.media) (m.faults c.open_replayed.new.media) c.open_replayed.result c.read_gate.ensures.unmoved c.requires c.in_ok-read_gate.ensures.faults.quiet c.open_replayed.ensures

pub read_geometry-requires : goal.read_geometry-requires
read_geometry-requires g c =
    omega (arith, c.size.ensures, c.if-size-lt-END.false, ap length (c.read_gate.ensures.unmoved.reads Fast))

pub returns : goal.returns
returns g c =
    let m = g.M.Media in
    let s = m.seen c.args.media.now in
    let t = m.seen c.read_gate.new.media in
    let f = m.faults c.args.media.now in
    let k = m.faults c.read_gate.new.media in
    let f' = m.faults c.read_geometry.new.media in
    let r = c.read_geometry.result in
    let reads = c.read_gate.ensures.unmoved.reads in
    let tiers : t ≡ s = tiers_same s t reads in
    let un = unmoved_on c.read_gate.ensures.unmoved c.read_geometry.ensures.unmoved in
    let closed : is_gate_open (s Fast) ≡ false = sym c.in_ok-read_gate.ensures.gate ∙ c.if-branch.false in
    let spells = if_ok r (λ h x. subst (λ (y : Tier → List ℕ). Spells h (slice 0 4096 (y Fast))) tiers x) c.read_geometry.ensures.spells in
    let sizes = if_ok r (λ h z x. sym (ap length (reads x)) ∙ z x) c.read_geometry.ensures.sizes in
    let damaged = if_err r (λ e x. on_damage e (λ w block is. (is.0, is.1, subst (λ (y : Tier → List ℕ). HasNoSuper (slice 0 4096 (y Fast)) y) tiers is.2)) x) c.read_geometry.ensures.damaged in
    opens_geometry f f' r un c.requires closed c.in_ok-read_gate.ensures.rest (tells_on f k f' r c.in_ok-read_gate.ensures.faults.quiet c.read_geometry.ensures.faults) spells sizes damaged c.read_geometry.ensures.only

pub returns-in_err-read_gate : goal.returns-in_err-read_gate
returns-in_err-read_gate g c =
    let m = g.M.Media in
    let f = m.faults c.args.media.now in
    let f' = m.faults c.read_gate.new.media in
    let e = c.in_err-read_gate.field-0.0 in
    let read = c.in_err-read_gate.ensures in
    let p = err_from_is_err_and c.from_residual.result c.from_residual.ensures.1 in
    rw (p.1, p.2) (opens_err f f' c.read_gate.ensures.unmoved c.requires e (tells_as f f' e read.faults) (on_damage e (λ w block is. inl is) read.damaged) (λ is. absurd (read.only.1 is)) read.only.0)
