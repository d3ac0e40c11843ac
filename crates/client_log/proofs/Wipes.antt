-- The device calls of a wipe, by what counts under the generation to which a region is wiped.
use Rattle.std.proofs.Common.{◌≡◌, ◌≢◌, inl, inr, ℕ, ◌^◌, ◌<◌, Bool, true, false, List, [], drop, refl, sym, subst, arith}
use Rattle.std.specs.Prelude.{◌==◌, if◌then◌else◌}
use Rattle.byteorder.specs.Numbers.{little_number-reads_back}
use Rattle.update_log.specs.log_record.declared.format.Record.{Record}
use Rattle.update_log.specs.declared.format.TheConstants.{CLOSED}
use Rattle.update_log.specs.declared.stage.Stage.{Stage}
use Rattle.update_log.specs.declared.stage.Stage.TheVariants as stages
use Rattle.update_log.specs.RecordCounts.{records_under}
use Rattle.update_log.specs.Frames.{records}
use Rattle.update_log.specs.Wipe.{CanWipe, LeftInCall, first_stage, header_wiped, wipe_next}
use Rattle.update_log.specs.WipeStops.{LeftInWipe, generation, header_of}
use Rattle.update_log.proofs.Counts.{wiped_counts_none}
use Rattle.client_log.specs.Regions.{NamesBy}

none_both : (b : Bool) (rs : List Record) → rs ≡ [] → (if b then rs else []) ≡ []
none_both true rs none = none
none_both false rs none = refl

-- where no record stands, none counts
pub nothing_counts : (g : ℕ) (content : List ℕ) → records content ≡ [] → records_under g content ≡ []
nothing_counts g content none = none_both (generation content == g) (records content) none

-- what a call leaves, a wipe leaves
call_leaves : (s : Stage) (head : List ℕ) (behind : List Record) (content : List ℕ) → LeftInCall s head behind content → LeftInWipe head behind content
call_leaves stages.Closing head behind content l = inl l
call_leaves stages.Closed head behind content l = inl l
call_leaves stages.Resting head behind content l = inr l
call_leaves stages.Foreign head behind content l = inr l
call_leaves stages.Begun head behind content l = inr l
call_leaves stages.Written head behind content l = inr l
call_leaves stages.Kept head behind content l = inr l
call_leaves stages.Opened head behind content l = inr l
call_leaves stages.Failed head behind content l = inr l
call_leaves stages.Naming head behind content l = inr l
call_leaves stages.WipeFailed head behind content l = inr l

-- at no moment of a call a record counts under the generation
pub call_counts_none : (s : Stage) (gate g : ℕ) (head : List ℕ) (behind : List Record) (content : List ℕ) → CanWipe s → NamesBy s g (generation head) → LeftInCall (wipe_next s gate) head behind content → records_under g content ≡ []
call_counts_none stages.Resting gate g head behind content can other l = wiped_counts_none g head content behind (call_leaves (first_stage gate) head behind content l) other
call_counts_none stages.Foreign gate g head behind content can other l = wiped_counts_none g head content behind (call_leaves (first_stage gate) head behind content l) other
call_counts_none stages.Closing gate g head behind content can other l = wiped_counts_none g head content behind (inl l) other
call_counts_none stages.Closed gate g head behind content can other l = nothing_counts g content l.none
call_counts_none stages.Naming gate g head behind content can is l = nothing_counts g content l.none
call_counts_none stages.Begun gate g head behind content can other l = absurd can
call_counts_none stages.Written gate g head behind content can other l = absurd can
call_counts_none stages.Kept gate g head behind content can other l = absurd can
call_counts_none stages.Opened gate g head behind content can other l = absurd can
call_counts_none stages.Failed gate g head behind content can other l = absurd can
call_counts_none stages.WipeFailed gate g head behind content can other l = absurd can

-- a header that names a generation
pub names_back : (g : ℕ) (head : List ℕ) → g < 2 ^ 64 → generation (header_of g head) ≡ g
names_back g head small = little_number-reads_back 8 g (drop 8 head) (omega (arith, small))

-- What a header names after a call that leads to a stage: once the wipe has ended, the generation.
abbrev pub NamesAfter : Stage → ℕ → ℕ → Type 0
NamesAfter stages.Resting g name = name ≡ g
NamesAfter stages.Foreign g name = ⊥
NamesAfter stages.Begun g name = ⊥
NamesAfter stages.Written g name = ⊥
NamesAfter stages.Kept g name = ⊥
NamesAfter stages.Opened g name = ⊥
NamesAfter stages.Failed g name = ⊥
NamesAfter stages.Closing g name = name ≢ g
NamesAfter stages.Closed g name = Unit {0}
NamesAfter stages.Naming g name = name ≡ g
NamesAfter stages.WipeFailed g name = ⊥

first_named : (closed : Bool) (g : ℕ) (head : List ℕ) → g < 2 ^ 64 → generation head ≢ g
    → NamesAfter (if closed then stages.Naming else stages.Closing) g (generation (header_wiped (if closed then stages.Naming else stages.Closing) g head))
first_named true g head small other = names_back g head small
first_named false g head small other = other

pub named_after : (s : Stage) (gate g : ℕ) (head : List ℕ) → g < 2 ^ 64 → CanWipe s → NamesBy s g (generation head) → NamesAfter (wipe_next s gate) g (generation (header_wiped (wipe_next s gate) g head))
named_after stages.Resting gate g head small can other = first_named (gate == CLOSED) g head small other
named_after stages.Foreign gate g head small can other = first_named (gate == CLOSED) g head small other
named_after stages.Closing gate g head small can other = tt
named_after stages.Closed gate g head small can other = names_back g head small
named_after stages.Naming gate g head small can is = is
named_after stages.Begun gate g head small can other = absurd can
named_after stages.Written gate g head small can other = absurd can
named_after stages.Kept gate g head small can other = absurd can
named_after stages.Opened gate g head small can other = absurd can
named_after stages.Failed gate g head small can other = absurd can
named_after stages.WipeFailed gate g head small can other = absurd can

-- a wipe that has not ended goes on
pub goes_on : (s : Stage) (g name : ℕ) → s ≢ stages.Resting → NamesAfter s g name → CanWipe s × NamesBy s g name
goes_on stages.Resting g name more is = absurd (more refl)
goes_on stages.Foreign g name more is = absurd is
goes_on stages.Begun g name more is = absurd is
goes_on stages.Written g name more is = absurd is
goes_on stages.Kept g name more is = absurd is
goes_on stages.Opened g name more is = absurd is
goes_on stages.Failed g name more is = absurd is
goes_on stages.Closing g name more is = (tt, is)
goes_on stages.Closed g name more is = (tt, is)
goes_on stages.Naming g name more is = (tt, is)
goes_on stages.WipeFailed g name more is = absurd is

-- what a header names after a call that succeeded
pub after_call : (old new : Stage) (gate g : ℕ) (head head' : List ℕ) → g < 2 ^ 64 → CanWipe old → NamesBy old g (generation head) → new ≡ wipe_next old gate → head' ≡ header_wiped new g head → NamesAfter new g (generation head')
after_call old new gate g head head' small can names to is =
    subst (λ (h : List ℕ). NamesAfter new g (generation h)) (sym is)
    (subst (λ (s : Stage). NamesAfter s g (generation (header_wiped s g head))) (sym to) (named_after old gate g head small can names))

-- once the wipe has ended, the generation
pub ends_named : (s : Stage) (g name : ℕ) → s ≡ stages.Resting → NamesAfter s g name → name ≡ g
ends_named s g name e after = subst (λ (t : Stage). NamesAfter t g name) e after
