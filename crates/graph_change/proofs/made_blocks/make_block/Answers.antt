use Rattle.std.proofs.Common.{◌≡◌, ◌∙◌, ℕ, Bool, List, false, ap, sym, subst}
use Rattle.std.specs.FinMap as fin
use Rattle.graph_change.specs.Change.{Patch, Patches, blank, patch_at}
use Rattle.graph_change.specs.Memory.{HasMade}
use Rattle.graph_change.specs.View.{map_of, patch_of, patches_of}
use Rattle.graph_change.proofs.Making.{on_err, has_is, there_now, patches_now, others_now, made_more}
use Rattle.graph_change.proofs.Maps.{put_at}
use Rattle.graph_change.proofs.made_blocks.make_block.Goals as goal

pub returns-then-contains_key-clause-there : goal.returns-then-contains_key-clause-there
returns-then-contains_key-clause-there c = has_is c.args.blocks.now c.args.number ∙ sym c.contains_key.ensures ∙ c.if-contains_key.true

pub returns-in_err-push-clause-memory : goal.returns-in_err-push-clause-memory
returns-in_err-push-clause-memory c = on_err c.from_residual.result (has_is c.args.blocks.now c.args.number ∙ sym c.contains_key.ensures ∙ c.if-contains_key.false)

pub returns-in_err-insert-clause-made : goal.returns-in_err-insert-clause-made
returns-in_err-insert-clause-made c old has =
    subst (λ (ns : List ℕ). HasMade ns old (patches_of c.insert.new.self)) (sym c.in_ok-push.ensures.items)
    (made_more c.args.made.now.items c.args.number old (patches_of c.args.blocks.now) (patches_of c.insert.new.self) (has_is c.args.blocks.now c.args.number ∙ sym c.contains_key.ensures ∙ c.if-contains_key.false)
    (λ b other. ap (λ (es : List (ℕ × (List ℕ × List Bool))). fin.get (map_of patch_of es) b) c.in_err-insert.ensures.err) has)

pub returns-in_err-insert-clause-memory : goal.returns-in_err-insert-clause-memory
returns-in_err-insert-clause-memory c = on_err c.from_residual-in_err-insert.result (has_is c.args.blocks.now c.args.number ∙ sym c.contains_key.ensures ∙ c.if-contains_key.false)

-- nothing is put into the new block
blank_is : (f : Patch) → ((p : ℕ) → f p ≡ blank p) → f ≡ blank
blank_is f none = λ t p. none p t

pub returns-clause-there : goal.returns-clause-there
returns-clause-there c =
    let ps = patches_of c.args.blocks.now in
    let n = c.args.number in
    let put : patches_of c.insert.new.self ≡ fin.insert ps n blank = put_at patch_of c.args.blocks.now c.insert.new.self n _ blank (blank_is (patch_of _) c.new.ensures) c.in_ok-insert.ensures.updates in
    ap (λ (m : Patches). fin.contains_key m n) put ∙ there_now ps n (has_is c.args.blocks.now n ∙ sym c.contains_key.ensures ∙ c.if-contains_key.false)

pub returns-clause-patches : goal.returns-clause-patches
returns-clause-patches c b =
    let ps = patches_of c.args.blocks.now in
    let n = c.args.number in
    let put : patches_of c.insert.new.self ≡ fin.insert ps n blank = put_at patch_of c.args.blocks.now c.insert.new.self n _ blank (blank_is (patch_of _) c.new.ensures) c.in_ok-insert.ensures.updates in
    ap (λ (m : Patches). patch_at m b) put ∙ patches_now ps n (has_is c.args.blocks.now n ∙ sym c.contains_key.ensures ∙ c.if-contains_key.false) b

pub returns-clause-others : goal.returns-clause-others
returns-clause-others c b other =
    let ps = patches_of c.args.blocks.now in
    let n = c.args.number in
    let put : patches_of c.insert.new.self ≡ fin.insert ps n blank = put_at patch_of c.args.blocks.now c.insert.new.self n _ blank (blank_is (patch_of _) c.new.ensures) c.in_ok-insert.ensures.updates in
    ap (λ (m : Patches). fin.get m b) put ∙ others_now ps n (has_is c.args.blocks.now n ∙ sym c.contains_key.ensures ∙ c.if-contains_key.false) b other

pub returns-clause-made : goal.returns-clause-made
returns-clause-made c old has =
    let ps = patches_of c.args.blocks.now in
    let n = c.args.number in
    let absent : fin.contains_key ps n ≡ false = has_is c.args.blocks.now n ∙ sym c.contains_key.ensures ∙ c.if-contains_key.false in
    let put : patches_of c.insert.new.self ≡ fin.insert ps n blank = put_at patch_of c.args.blocks.now c.insert.new.self n _ blank (blank_is (patch_of _) c.new.ensures) c.in_ok-insert.ensures.updates in
    subst (λ (ns : List ℕ). HasMade ns old (patches_of c.insert.new.self)) (sym c.in_ok-push.ensures.items)
    (made_more c.args.made.now.items n old ps (patches_of c.insert.new.self) absent (λ b other. ap (λ (m : Patches). fin.get m b) put ∙ others_now ps n absent b other) has)
