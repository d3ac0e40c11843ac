-- What a line of a script asks of a running system.
use Rattle.std.specs.Prelude.{ℕ, ◌==◌, List, [], ◌∷◌, Option, Some, None, if◌then◌else◌, option_map, codes}
use Rattle.std.specs.Option.{option_or}
use Rattle.std.specs.Str.{bytes_eq}
use Rattle.posix_calls.specs.declared.call.Call.{Call}
use Rattle.tier_device.specs.declared.fill.Fill.{Fill}
use Rattle.script.specs.Script.{◌>>=◌, parts, one, two, four, number, ordinal, client, path_bytes}
use Rattle.script.specs.Fills.{fill, medium, all_fills}
use Rattle.script.specs.Lines.{verb, call_for}
use Rattle.script.specs.declared.system_line.Manner.{Manner}
use Rattle.script.specs.declared.system_line.Manner.TheVariants as manners
use Rattle.script.specs.declared.system_line.LowerTier.{LowerTier}
use Rattle.script.specs.declared.system_line.LowerTier.TheVariants as tiers
use Rattle.script.specs.declared.system_line.EventWord.{EventWord}
use Rattle.script.specs.declared.system_line.EventWord.TheVariants as events

-- what is asked: a client's call, in a manner; an event of a client; its death, and its burial; a move of some blocks, from one on, to a tier; the tier of a block; how the units stand; a stop within a write or fence, and its fill; a stop between two, and the fill of each medium; the failure of a medium's write or fence; a recovery
pub data Asked : Type 0 where
  Calls : (client : ℕ) (manner : Manner) (call : Call) → Asked
  Steps : (client : ℕ) → Asked
  Digests : (client : ℕ) → Asked
  Wipes : (client : ℕ) → Asked
  Dies : (client : ℕ) → Asked
  Buries : (client : ℕ) → Asked
  Moves : (path : List ℕ) (first count : ℕ) (to : LowerTier) → Asked
  Places : (path : List ℕ) (block : ℕ) → Asked
  Books : Asked
  Stops : (call : ℕ) (fill : Fill) → Asked
  Halts : (fills : List Fill) → Asked
  Fails : (call medium : ℕ) → Asked
  Recovers : Asked

-- ---- words

-- the manner that a word names
abbrev pub manner : List ℕ → Option Manner
manner w = if bytes_eq w (codes "try") then Some manners.Tried else if bytes_eq w (codes "begin") then Some manners.Begun else None

-- the event that stops a world, or fails one of its media, by its word
abbrev pub stop_event : List ℕ → Option EventWord
stop_event w =
    if bytes_eq w (codes "stop") then Some events.Stop else
    if bytes_eq w (codes "halt") then Some events.Halt else
    if bytes_eq w (codes "fail") then Some events.Fail else None

-- the event of a running world that a word names
abbrev pub running_event : List ℕ → Option EventWord
running_event w =
    if bytes_eq w (codes "step") then Some events.Step else
    if bytes_eq w (codes "digest") then Some events.Digest else
    if bytes_eq w (codes "wipe") then Some events.Wipe else
    if bytes_eq w (codes "die") then Some events.Die else
    if bytes_eq w (codes "bury") then Some events.Bury else
    if bytes_eq w (codes "migrate") then Some events.Migrate else
    if bytes_eq w (codes "where") then Some events.Where else None

-- the event of either kind
abbrev pub event : List ℕ → Option EventWord
event w = option_or (running_event w) (stop_event w)

-- the tier that a word names
abbrev pub lower_tier : List ℕ → Option LowerTier
lower_tier w = if bytes_eq w (codes "block") then Some tiers.Block else if bytes_eq w (codes "slow") then Some tiers.Slow else None

-- ---- lines

-- a call of these words
abbrev pub asks_in : ℕ → Manner → List (List ℕ) → Option Asked
asks_in n m [] = None
asks_in n m (w ∷ []) = None
asks_in n m (w ∷ x ∷ words) = verb w >>= λ v. option_map (Calls n m) (call_for v (x ∷ words))

-- a call in the manner of the first word, where that names one
abbrev pub asks_from : Option Manner → ℕ → List ℕ → List (List ℕ) → Option Asked
asks_from None n w words = asks_in n manners.Served (w ∷ words)
asks_from (Some m) n w words = asks_in n m words

abbrev pub asks_call : ℕ → List (List ℕ) → Option Asked
asks_call n [] = None
asks_call n (w ∷ []) = None
asks_call n (w ∷ x ∷ words) = asks_from (manner w) n w (x ∷ words)

abbrev pub asks_event : EventWord → List (List ℕ) → Option Asked
asks_event events.Step words = one words >>= λ w. option_map Steps (client w)
asks_event events.Digest words = one words >>= λ w. option_map Digests (client w)
asks_event events.Wipe words = one words >>= λ w. option_map Wipes (client w)
asks_event events.Die words = one words >>= λ w. option_map Dies (client w)
asks_event events.Bury words = one words >>= λ w. option_map Buries (client w)
asks_event events.Migrate words = four words >>= λ w. path_bytes w.0 >>= λ path. number w.1 >>= λ first. number w.2 >>= λ count. option_map (Moves path first count) (lower_tier w.3)
asks_event events.Where words = two words >>= λ w. path_bytes w.0 >>= λ path. option_map (Places path) (number w.1)
asks_event events.Stop words = two words >>= λ w. ordinal w.0 >>= λ k. option_map (Stops k) (fill w.1)
asks_event events.Halt words = option_map Halts (all_fills words)
asks_event events.Fail words = two words >>= λ w. ordinal w.0 >>= λ k. option_map (Fails k) (medium w.1)

-- the call of the client that the first word numbers
abbrev pub asks_numbered : List ℕ → List (List ℕ) → Option Asked
asks_numbered w words = client w >>= λ n. asks_call n words

-- that, or the event that the first word names
abbrev pub asks_either : Option EventWord → List ℕ → List (List ℕ) → Option Asked
asks_either (Some e) w words = asks_event e words
asks_either None w words = asks_numbered w words

-- what one word asks
abbrev pub asks_alone : List ℕ → Option Asked
asks_alone w =
    if bytes_eq w (codes "book") then Some Books else
    if bytes_eq w (codes "halt") then option_map Halts (all_fills []) else
    if bytes_eq w (codes "recover") then Some Recovers else None

abbrev pub asks : List (List ℕ) → Option Asked
asks [] = None
asks (w ∷ []) = asks_alone w
asks (w ∷ x ∷ words) = asks_either (event w) w (x ∷ words)

-- what a line asks: nothing where it is empty or begins with `#` (35); no value where it can't be read
abbrev pub system_line : List ℕ → Option (Option Asked)
system_line [] = Some None
system_line (b ∷ bs) = if b == 35 then Some None else option_map Some (asks (parts 32 (b ∷ bs)))
