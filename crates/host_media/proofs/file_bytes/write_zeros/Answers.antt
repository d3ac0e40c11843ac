use Rattle.std.proofs.Common.{◌∙◌, length, ap, sym}
use Rattle.std.specs.Prelude.{replicate}
use Rattle.std.proofs.lemmas.List.{length-replicate}
use Rattle.host_media.proofs.file_bytes.write_zeros.Goals as goal

pub write_pieces-requires-clause-zeros : goal.write_pieces-requires-clause-zeros
write_pieces-requires-clause-zeros c =
    let are = c.deref.ensures.value ∙ c.in_ok-zeros.ensures.items_if_clones_equal (λ y is. is) in
    are ∙ ap (λ n. replicate n 0) (sym (ap length are ∙ length-replicate c.args.chunk 0))
