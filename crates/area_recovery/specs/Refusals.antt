-- What a refusal of a recovery says of the contents of the parts.
use Rattle.std.specs.Prelude.{◌≡◌, ◌⊎◌, ℕ, ◌+◌, ◌-◌, ◌<◌, List, take, true, false}
use Rattle.recovery_laws.specs.shared_area.AreaOpen.{IsMediumDamage, SpellsNone}
use Rattle.recovery_laws.specs.layout.declared.error.What.{What}
use Rattle.recovery_laws.specs.Contents.{log_in}
use Rattle.event_lists.specs.Courses.{WorldContent, part_of}
use Rattle.recovery_laws.specs.area_reader.Format.{IsOpenable}
use Rattle.recovery_laws.specs.area_reader.Store.{Store, graph, store_of}
use Rattle.recovery_laws.specs.batch_journal.Volume.{IsVolume}
use Rattle.recovery_laws.specs.layout.Places.{Sizes}
use Rattle.graph_check.specs.file_graph.Graph.{Graph}
use Rattle.graph_check.specs.log_record.declared.format.Record.{Record}
use Rattle.log_survey.specs.update_log.View.{HasSize}
use Rattle.log_survey.specs.world_invariant.Logs.{LogsAreApart, after_clients, is_written}
use Rattle.posix_calls.specs.Operations.{is_client}
use Rattle.posix_calls.specs.declared.limits.TheConstants.{MAX_CLIENTS}
use Rattle.area_recovery.specs.declared.error.RecoveryError.{RecoveryError}
use Rattle.area_recovery.specs.declared.error.RecoveryError.TheVariants as errors
use Rattle.area_recovery.specs.DigestedLogs.{CanDigest, CanDigestAll, IsFirstRefused}
use Rattle.area_recovery.specs.GraphTests.{IsGraphDamage}

-- each part that is a region has its size
abbrev pub HaveRegionSizes : WorldContent → Type 0
HaveRegionSizes c = (client r : ℕ) → is_client client ≡ true → r < 2 → HasSize (c (part_of client r))

-- ---- records that touch what those of another client do

-- records touch no inode that those of a client before this one do
abbrev pub ShareNone : (ℕ → List Record) → ℕ → List Record → Type 0
ShareNone logs client rs = (d i : ℕ) → is_client d ≡ true → d < client → is_written i rs ≡ true → is_written i (logs d) ≡ false

-- The record of a client at this place touches an inode that those of a client before it do: the first such record of the first such client.
pub record IsFirstSharing (logs : ℕ → List Record) (client place : ℕ) : Type 0 where
  pub client_is : is_client client ≡ true
  pub before : (d : ℕ) → is_client d ≡ true → d < client → ShareNone logs d (logs d)
  pub clear : ShareNone logs client (take place (logs client))
  pub shares : ShareNone logs client (take (place + 1) (logs client)) → ⊥

-- ---- records that can't be digested

-- The record of a client at this place can't be digested: the first such record of the first such client, where they are digested client after client.
pub record IsFirstUndigestible (capacity : ℕ) (g : Graph) (logs : ℕ → List Record) (client place : ℕ) : Type 0 where
  pub client_is : is_client client ≡ true
  pub before : (d : ℕ) → is_client d ≡ true → d < client → CanDigest capacity (after_clients logs g (d - 1)) (logs d)
  pub refused : IsFirstRefused capacity (after_clients logs g (client - 1)) (logs client) place

-- ---- the cause of a refusal

-- what a refusal says of a shared medium that opens, and of the records of each client that count
abbrev pub IsStoredCause : Sizes → Store → (ℕ → List Record) → RecoveryError → Type 0
IsStoredCause g s logs errors.DeviceFault = Unit {0}
IsStoredCause g s logs (errors.Damaged structure block) = LogsAreApart logs × CanDigestAll g.units (graph g s) logs × IsGraphDamage (after_clients logs (graph g s) MAX_CLIENTS) structure block
IsStoredCause g s logs errors.AreaSize = ⊥
IsStoredCause g s logs errors.RegionSize = ⊥
IsStoredCause g s logs (errors.BadLog client place) = IsFirstSharing logs client place ⊎ (LogsAreApart logs × IsFirstUndigestible g.units (graph g s) logs client place)
IsStoredCause g s logs errors.Memory = Unit {0}

-- The regions have their size, the shared medium opens, and what they store is refused for this cause.
pub record StoresCause (c : WorldContent) (e : RecoveryError) : Type 0 where
  pub sizes : HaveRegionSizes c
  pub geometry : Sizes
  pub volume : IsVolume geometry (c 0)
  pub opens : IsOpenable geometry (store_of (c 0))
  pub cause : IsStoredCause geometry (store_of (c 0)) (log_in c) e

-- A structure of the shared medium is damaged: it spells no graph, or the graph after all records that count has a defect there.
abbrev pub StoresDamage : WorldContent → What → ℕ → Type 0
StoresDamage c structure block = (SpellsNone (c 0) × IsMediumDamage (c 0) structure block) ⊎ StoresCause c (errors.Damaged structure block)

-- A record of a client that counts can't be digested: it touches what an earlier client's do, or it is not good over the graph as those before it leave it.
abbrev pub StoresBadLog : WorldContent → ℕ → ℕ → Type 0
StoresBadLog c client place = StoresCause c (errors.BadLog client place)

-- what a refusal says of the contents of all parts
abbrev pub IsCause : WorldContent → RecoveryError → Type 0
IsCause c errors.DeviceFault = Unit {0}
IsCause c (errors.Damaged structure block) = StoresDamage c structure block
IsCause c errors.AreaSize = ⊥
IsCause c errors.RegionSize = HaveRegionSizes c → ⊥
IsCause c (errors.BadLog client place) = StoresBadLog c client place
IsCause c errors.Memory = Unit {0}
