use Rattle.std.proofs.Common.{refl}
use Rattle.call_effects.specs.Knowledge.{part_of}
use Rattle.call_effects.proofs.KnownRoot.{root_open, root_truncate, root_mkdir, root_rmdir, root_link, root_unlink, root_rename_from, root_rename_to, root_exchange_first, root_exchange_second}
use Rattle.call_effects.proofs.known_laws.root_is_refused_without_a_copy.Goals as goal

pub returns-clause-open : goal.returns-clause-open
returns-clause-open c = λ k path flags number. root_open (part_of k) k.own path flags number refl

pub returns-clause-truncate : goal.returns-clause-truncate
returns-clause-truncate c = λ k path len. root_truncate (part_of k) path len refl

pub returns-clause-mkdir : goal.returns-clause-mkdir
returns-clause-mkdir c = λ k. root_mkdir (part_of k)

pub returns-clause-rmdir : goal.returns-clause-rmdir
returns-clause-rmdir c = λ k. root_rmdir (part_of k)

pub returns-clause-link : goal.returns-clause-link
returns-clause-link c = λ k path new names. root_link (part_of k) path new names refl

pub returns-clause-unlink : goal.returns-clause-unlink
returns-clause-unlink c = λ k. root_unlink (part_of k)

pub returns-clause-rename : goal.returns-clause-rename
returns-clause-rename c = λ k. root_rename_from (part_of k)

pub returns-clause-renamed : goal.returns-clause-renamed
returns-clause-renamed c = λ k. root_rename_to (part_of k)

pub returns-clause-exchange : goal.returns-clause-exchange
returns-clause-exchange c = λ k. root_exchange_first (part_of k)

pub returns-clause-exchanged : goal.returns-clause-exchanged
returns-clause-exchanged c = λ k. root_exchange_second (part_of k)
