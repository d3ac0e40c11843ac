use Rattle.call_effects.proofs.Changes.{fair_of}
use Rattle.call_effects.proofs.KnownKinds.{entry_tells_kind}
use Rattle.call_effects.proofs.known_laws.copied_entries_have_kinds.Goals as goal

pub returns : goal.returns
returns c = λ k g held at i is_dir sound agrees entry. entry_tells_kind k g held (fair_of g held sound) agrees at i is_dir entry
