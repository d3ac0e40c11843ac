use Rattle.std.proofs.Common.{◌∙◌, ap, length}
use Rattle.std.specs.Prelude.{replicate}
use Rattle.std.proofs.lemmas.List.{length-replicate}
use Rattle.host_media.proofs.ToldTiers.{length-known, told-whole}
use Rattle.host_media.specs.FileBytes.{Told, known, with_told}
use Rattle.world_files.proofs.image_file.write_draft.Goals as goal

pub returns : goal.returns
returns g c =
    let bytes = c.args.bytes.now in
    let zeros = replicate (length bytes) 0 in
    c.in_ok-write.ensures.written ∙ ap (λ (told : Told). with_told told 0 (known bytes)) c.in_ok-file.ensures.zeros ∙ told-whole (known zeros) bytes (length-known zeros ∙ length-replicate (length bytes) 0)
