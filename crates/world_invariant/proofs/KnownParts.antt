-- What a client knows agrees with the whole wherever its copies and blocks do: all else follows from the other parts of the invariant.
use Rattle.std.proofs.Common.{◌≡◌, ◌≢◌, inl, inr, ℕ, cond, true, false, None, ap, sym, ◌∙◌, subst}
use Rattle.std.proofs.lemmas.Bool.Decides.{eqb_tells}
use Rattle.posix_calls.specs.Operations.{is_client}
use Rattle.call_effects.specs.Fits.{IsNew}
use Rattle.call_effects.specs.Knowledge.{Agrees}
use Rattle.world_invariant.specs.Logs.{is_made_in}
use Rattle.world_invariant.specs.World.{World, log_of, whole_graph, held_descriptors}
use Rattle.world_invariant.specs.Parts.{BookPart, NumbersFree, NumbersInRange, NumbersInOneHand, HoldsIn, ClientPart, OwnNumber, MadeBooked, GrantedBooked, GrantedUnused, HoldsOf, WorldPart, Book, Each, WholeKnown, HoldsOfWorld, HasTrueCopies}
use Rattle.world_invariant.proofs.Made.{clients_none}
use Rattle.world_invariant.proofs.Owners.{client_is}
use Rattle.world_invariant.proofs.Records.{still_false}

module _ (w : World) (has : (q : WorldPart) → q ≢ WholeKnown → HoldsOfWorld q w) (c : ℕ) (is_c : is_client c ≡ true) where
  of_client : (q : ClientPart) (d : ℕ) → is_client d ≡ true → HoldsOf q w.kernel.shared (w.kernel.accounts d) d (w.clients d)
  of_client q = has (Each q) (λ e. absurd (cc))

  of_book : (q : BookPart) → HoldsIn q w.kernel
  of_book q = has (Book q) (λ e. absurd (cc))

  number_is : (w.clients c).knows.client ≡ c
  number_is = of_client OwnNumber c is_c

  granted_new : (i : ℕ) → (w.clients c).knows.granted i ≡ true → IsNew (whole_graph w) i
  granted_new i e =
      let booked : (w.kernel.accounts c).numbers i ≡ true = of_client GrantedBooked c is_c i e in
      let range = of_book NumbersInRange c i is_c booked in
      record { low = range.0; high = range.1; none = clients_none 8 (log_of w) w.kernel.shared i (of_book NumbersFree c i is_c booked) (λ d low high. unmade d (client_is d low high)) }
    where
      unmade : (d : ℕ) → is_client d ≡ true → is_made_in i (log_of w d) ≡ false
      unmade d is_d = elim (eqb_tells d c) [
        | inl same ↦ subst (λ x. is_made_in i (log_of w x) ≡ false) (sym same.1) (of_client GrantedUnused c is_c i e)
        | inr other ↦ still_false ((w.kernel.accounts d).numbers i) (is_made_in i (log_of w d)) (λ made. of_client MadeBooked d is_d i made) (of_book NumbersInOneHand c d i is_c is_d other.1 (of_client GrantedBooked c is_c i e))
      ]

  pub known_of_copies : HasTrueCopies (w.clients c).knows (whole_graph w) → Agrees (w.clients c).knows (whole_graph w) (held_descriptors w)
  known_of_copies t = record {
    client = ap is_client number_is ∙ is_c;
    own = λ n. ap (λ d. held_descriptors w d n) number_is ∙ ap (λ b. cond b ((w.clients c).knows.own n) None) is_c;
    back = t.back;
    put_back = t.put_back;
    copies = t.copies;
    blocks = t.blocks;
    granted = granted_new;
  }
