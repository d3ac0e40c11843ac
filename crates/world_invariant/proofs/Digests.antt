-- Records go into the shared graph, and the whole stays.
use Rattle.std.proofs.Common.{◌≡◌, ◌≢◌, inl, inr, ℕ, ◌+◌, ◌-◌, ◌≤◌, true, false, List, ◌++◌, length, refl, ap, sym, ◌∙◌, arith}
use Rattle.std.specs.Prelude.{◌&&◌, not}
use Rattle.posix_calls.specs.Tree.{sum_up_to}
use Rattle.posix_calls.specs.Operations.{is_client}
use Rattle.call_effects.specs.file_graph.Graph.{Graph}
use Rattle.call_effects.specs.file_graph.Units.{charge}
use Rattle.call_effects.specs.log_record.declared.format.Record.{Record}
use Rattle.call_effects.specs.Wholes.{IsSound, state_of}
use Rattle.call_effects.specs.Knowledge.{Agrees}
use Rattle.world_invariant.specs.Logs.{after_records, is_written, is_made_in, units_in, IsPaid, Keeps}
use Rattle.world_invariant.specs.Limits.{IsWithin}
use Rattle.world_invariant.specs.World.{Client, Account, World, undigested_records, records_of, change_of, log_of, all_of, whole_graph, held_descriptors, world_state, at}
use Rattle.world_invariant.specs.ClientParts.{IsBooked, IsSoundPart}
use Rattle.world_invariant.specs.Invariant.{IsCoherent}
use Rattle.world_invariant.specs.KernelSteps.{CanDigest, records_digested}
use Rattle.world_invariant.proofs.Records.{either, both, records_stay, front_unwritten}
use Rattle.world_invariant.proofs.Owners.{digested_whole}
use Rattle.world_invariant.proofs.Made.{records_none}
use Rattle.world_invariant.proofs.Along.{along_front}
use Rattle.world_invariant.proofs.Paid.{charge_records}
use Rattle.world_invariant.proofs.Keeping.{through}
use Rattle.world_invariant.proofs.Facts.{apart_logs}
use Rattle.world_invariant.proofs.Facts as facts
use Rattle.world_invariant.proofs.PartsStand.{stands_same}
use Rattle.world_invariant.proofs.DigestedParts as part
use Rattle.world_invariant.proofs.Moved.{both_same, holds_moved, booked_moved, units_moved, log_there, log_else, held_same}

module _ (w : World) (c : ℕ) (first rest : List Record) (h : IsCoherent w) (can : CanDigest w c first rest) where
  abbrev p : Client
  p = w.clients c

  abbrev account : Account
  account = w.kernel.accounts c

  abbrev after : Account
  after = record account { mark = account.mark + length first; units = account.units - units_in first; numbers = λ i. account.numbers i && not (is_made_in i first) }

  abbrev shared : Graph
  shared = after_records w.kernel.shared first

  abbrev later : List Record
  later = rest ++ p.current

  s : IsSoundPart w.kernel.shared account c p
  s = h.stands c can.client

  log_was : log_of w c ≡ first ++ later
  log_was = part.log_was w.kernel.shared account c p first rest s can.split

  log_is : undigested_records after p ≡ later
  log_is = part.log_is w.kernel.shared account c p first rest s can.split

  all_was : records_of account p ≡ first ++ (later ++ change_of p.begun)
  all_was = part.all_was w.kernel.shared account c p first rest s can.split

  -- ---- the whole stays

  pub digest_keeps : whole_graph (records_digested w c first) ≡ whole_graph w
  digest_keeps = λ t i. digested_whole (log_of w) (log_of (records_digested w c first)) w.kernel.shared c first later can.client (apart_logs w h) log_was (log_there w c shared after p ∙ log_is) (log_else w c shared after p) i t

  open_same : held_descriptors (records_digested w c first) ≡ held_descriptors w
  open_same = held_same w c shared after p refl

  pub digested_tree : world_state (records_digested w c first) ≡ world_state w
  digested_tree = ap (λ g. state_of g (held_descriptors (records_digested w c first))) digest_keeps ∙ ap (λ o. state_of (whole_graph w) o) open_same

  -- ---- units

  fits : charge shared + sum_up_to 8 (λ d. (at w.kernel.accounts c after d).units) ≤ w.kernel.capacity
  fits =
      let sums : sum_up_to 8 (λ d. (at w.kernel.accounts c after d).units) + account.units ≡ sum_up_to 8 (λ d. (w.kernel.accounts d).units) + (account.units - units_in first) = units_moved w c shared after p h can.client in
      let before : charge w.kernel.shared + sum_up_to 8 (λ d. (w.kernel.accounts d).units) ≤ w.kernel.capacity = h.booked.fits in
      let risen : charge shared ≤ charge w.kernel.shared + units_in first = charge_records first w.kernel.shared (along_front IsPaid first (later ++ change_of p.begun) w.kernel.shared (part.paid_all w.kernel.shared account c p first rest s can.split)) in
      let were : p.spare + (units_in first + units_in (later ++ change_of p.begun)) ≤ account.units = part.units_were w.kernel.shared account c p first rest s can.split in
      omega (arith, sums, before, risen, were)

  -- ---- numbers

  still : (i : ℕ) → after.numbers i ≡ true → (account.numbers i ≡ true) × (is_made_in i first ≡ false)
  still i e = part.both_of (account.numbers i) (is_made_in i first) e

  book : IsBooked (records_digested w c first).kernel
  book = booked_moved w c shared after p h can.client
      (λ i e. records_none w.kernel.shared first i (h.booked.free c i can.client (still i e).0) (still i e).1)
      (λ d i is_d other e. records_none w.kernel.shared first i (h.booked.free d i is_d e) (elim (either (is_made_in i first)) [
        | inl there ↦ both ((w.kernel.accounts d).numbers i) e (h.booked.alone c d i can.client is_d other (part.made_first w.kernel.shared account c p first rest s can.split i there))
        | inr clean ↦ clean
      ]))
      (λ i e. h.booked.range c i can.client (still i e).0)
      (λ d i is_d other e. h.booked.alone c d i can.client is_d other (still i e).0)
      (λ i. through IsWithin first w.kernel.shared i (along_front (Keeps IsWithin) first (later ++ change_of p.begun) w.kernel.shared (part.limits_all w.kernel.shared account c p first rest s can.split)) (h.booked.limits i))
      fits

  -- ---- the parts

  -- who else writes an inode finds there what it found
  beside : (d i : ℕ) → is_client d ≡ true → d ≢ c → is_written i (all_of w d) ≡ true → w.kernel.shared i ≡ shared i
  beside d i is_d other e = sym (records_stay w.kernel.shared first i (front_unwritten i first (later ++ change_of p.begun)
      (ap (is_written i) (sym all_was) ∙ facts.apart_all w h d c i is_d can.client (λ same. other (sym same)) e)))

  pub digested_holds : IsCoherent (records_digested w c first)
  digested_holds = holds_moved w c shared after p h can.client book (part.digested_stands w.kernel.shared account c p first rest s can.split)
      (λ d is_d other. stands_same w.kernel.shared shared (w.kernel.accounts d) d (w.clients d) (λ i e. beside d i is_d other e) (h.stands d is_d))
      (λ d is_d other. h.beside c d can.client is_d other)
      (λ d is_d other. h.beside d c is_d can.client (λ same. other (sym same)))
      (both_same (λ g o. IsSound g o) digest_keeps open_same h.sound)
      (both_same (λ g o. Agrees p.knows g o) digest_keeps open_same (h.agrees c can.client))
      (λ d is_d other. both_same (λ g o. Agrees (w.clients d).knows g o) digest_keeps open_same (h.agrees d is_d))
