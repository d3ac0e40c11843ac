use Rattle.std.proofs.Common.{◌≡◌, ◌≢◌, ◌∙◌, Err, Some, None, refl, sym, ap, subst}
use Rattle.std.proofs.lemmas.Result.{err_from_is_err_and}
use Rattle.tier_device.specs.declared.media.Tier.TheVariants.{Fast}
use Rattle.batch_journal.specs.Blocks.{Blocks, home}
use Rattle.batch_journal.specs.layout.Places.{Sizes}
use Rattle.batch_journal.specs.layout.declared.geometry.Space.{Space}
use Rattle.batch_journal.specs.layout.Extents.{ExtentList}
use Rattle.area_reader.specs.Store.{root_of, own_extents, space_of}
use Rattle.area_reader.specs.Map.{IsOwnList}
use Rattle.area_reader.proofs.Looked.{looks_other, looks_none, looks_failed}
use Rattle.area_reader.proofs.Shown.{extents_none, extents_some}
use Rattle.area_reader.proofs.extents.read_extents.Goals as goal

pub returns-then-has_failed-clause-looks : goal.returns-then-has_failed-clause-looks
returns-then-has_failed-clause-looks g c =
    let m = g.M.Media in
    looks_failed m c.args.journal.now (sym c.has_failed.ensures ∙ c.if-has_failed.true)

pub returns-then-root-eq0-clause-looks : goal.returns-then-root-eq0-clause-looks
returns-then-root-eq0-clause-looks g c =
    let m = g.M.Media in
    looks_none m c.args.journal.now None (sym c.has_failed.ensures ∙ c.if-has_failed.false)

pub returns-then-root-eq0-clause-extents : goal.returns-then-root-eq0-clause-extents
returns-then-root-eq0-clause-extents g c =
    let none : root_of c.args.slot.now c.args.tier ≡ 0 = sym c.root_of-root.ensures ∙ c.if-root-eq0.true in
    record {
      extents = extents_none c.args.journal.now.geometry (home (g.M.Media.seen c.args.journal.now.media Fast)) c.args.inode c.args.slot.now c.args.tier none;
      none = (λ _. none, λ _. refl);
      list = tt;
    }

pub returns-in_err-found-clause-looks : goal.returns-in_err-found-clause-looks
returns-in_err-found-clause-looks g c =
    let m = g.M.Media in
    let p = err_from_is_err_and c.from_residual-in_err-found.result c.from_residual-in_err-found.ensures.1 in
    rw (p.1, p.2) (looks_other m c.args.journal.now c.read_block.new.journal c.in_ok-read_block.field-0 (Err c.in_err-found.field-0.0) c.in_ok-read_block.ensures.looks c.in_err-found.ensures.device)

is_some_none : (v : ExtentList) → Some v ≡ None → ⊥
is_some_none v e = cc

pub returns-clause-extents : goal.returns-clause-extents
returns-clause-extents g c =
    let old = c.args.journal.now in
    let fast : Blocks = home (g.M.Media.seen old.media Fast) in
    let slot = c.args.slot.now in
    let t = c.args.tier in
    let some : root_of slot t ≢ 0 = λ e. c.if-root-eq0.false (c.root_of-root.ensures ∙ e) in
    let geometry : c.geometry-geometry.result ≡ old.geometry = c.geometry-geometry.ensures ∙ c.read_block.ensures.looks.geometry in
    let bytes : c.read_block.new.out ≡ fast (root_of slot t) = c.in_ok-read_block.ensures.bytes ∙ ap fast c.root_of-root.ensures in
    let own : IsOwnList c.geometry-geometry.result c.space_of-space.result c.args.inode c.in_ok-found.found = c.in_ok-found.ensures.own in
    record {
      extents = extents_some old.geometry fast c.args.inode slot t some
          ∙ sym (λ p. own_extents (geometry p) (c.space_of-space.ensures p) c.args.inode (c.length_of-blocks.ensures p) (bytes p))
          ∙ c.in_ok-found.ensures.extents;
      none = (λ e. absurd (is_some_none c.in_ok-found.found e), λ zero. absurd (some zero));
      list = subst (λ (x : Sizes). IsOwnList x (space_of slot t) c.args.inode c.in_ok-found.found) geometry (subst (λ (p : Space). IsOwnList c.geometry-geometry.result p c.args.inode c.in_ok-found.found) c.space_of-space.ensures own);
    }
