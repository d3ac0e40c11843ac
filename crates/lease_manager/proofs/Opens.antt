-- The table at the start, and the parts that are cut off from its first seat one by one.
use Rattle.std.proofs.Common.{◌≡◌, ℕ, zero, suc, ◌+◌, ◌<◌, List, [], ◌∷◌, ◌++◌, take, drop, replicate, refl, sym, ap, ◌∙◌, subst, ⊎_elim, arith}
use Rattle.std.proofs.lemmas.List.{get_or-replicate, length-replicate}
use Rattle.std.proofs.lemmas.Nat.Bits.{bit_at-zero}
use Rattle.atomic_table.specs.Table.{opening}
use Rattle.lease_manager.specs.declared.view.LeaseMode.{LeaseMode}
use Rattle.lease_manager.specs.declared.view.LeaseMode.TheVariants.{Free}
use Rattle.lease_manager.specs.declared.view.Part.{Part}
use Rattle.lease_manager.specs.Marks.{read_mark, write_mark, is_lease, Shows}
use Rattle.seat_book.specs.Book.{HoldsPart, AreApart}
use Rattle.seat_book.proofs.Book.{begins as all_begin}
use Rattle.lease_manager.specs.Parts.{place_of, mode_at, blank, blanks}
use Rattle.lease_manager.specs.Law.{IsRuled, Law}
use Rattle.lease_manager.specs.Passes.{places}

pub next_blank : (k : ℕ) → k < 8 → drop k blanks ≡ blank k ∷ drop (k + 1) blanks
next_blank zero h = refl
next_blank (suc zero) h = refl
next_blank (suc (suc zero)) h = refl
next_blank (suc (suc (suc zero))) h = refl
next_blank (suc (suc (suc (suc zero)))) h = refl
next_blank (suc (suc (suc (suc (suc zero))))) h = refl
next_blank (suc (suc (suc (suc (suc (suc zero)))))) h = refl
next_blank (suc (suc (suc (suc (suc (suc (suc zero))))))) h = refl
next_blank (suc (suc (suc (suc (suc (suc (suc (suc k)))))))) h = absurd (omega arith)

pub next_place : (k : ℕ) → k < 8 → take (k + 1) places ≡ take k places ++ k ∷ []
next_place zero h = refl
next_place (suc zero) h = refl
next_place (suc (suc zero)) h = refl
next_place (suc (suc (suc zero))) h = refl
next_place (suc (suc (suc (suc zero)))) h = refl
next_place (suc (suc (suc (suc (suc zero))))) h = refl
next_place (suc (suc (suc (suc (suc (suc zero)))))) h = refl
next_place (suc (suc (suc (suc (suc (suc (suc zero))))))) h = refl
next_place (suc (suc (suc (suc (suc (suc (suc (suc k)))))))) h = absurd (omega arith)

-- the word 0 shows that nobody holds anything
free_word : (mode : ℕ → LeaseMode) → ((c : ℕ) → mode c ≡ Free) → Shows 0 mode
free_word mode free = record {
  reads = λ c lt. bit_at-zero c ∙ ap read_mark (sym (free c));
  writes = λ c lt. bit_at-zero (8 + c) ∙ ap write_mark (sym (free c));
  beyond = λ b ge. bit_at-zero b;
  legal = λ c d lt lt' apart w. ap is_lease (free d);
}

-- n clients from the place k on, with nothing held
abbrev from : ℕ → ℕ → List Part
from k zero = []
from k (suc n) = blank k ∷ from (suc k) n

has_from : (k n : ℕ) (p : Part) → HoldsPart (from k n) p → (k < suc p.place) × (blank p.place ≡ p)
has_from k zero p h = absurd h
has_from k (suc n) p h = ⊎_elim
    (λ (e : blank k ≡ p). subst (λ (q : Part). (k < suc q.place) × (blank q.place ≡ q)) e (omega arith, refl))
    (λ (t : HoldsPart (from (suc k) n) p). let r = has_from (suc k) n p t in let a = r.0 in (omega arith, r.1))
    h

apart_from : (k n : ℕ) → AreApart place_of (from k n)
apart_from k zero = tt
apart_from k (suc n) = ((λ p h e. let a = (has_from (suc k) n p h).0 in let e' : k ≡ p.place = e in omega arith), apart_from (suc k) n)

blanks_from : from 0 8 ≡ blanks
blanks_from = refl

blanks_are : (p : Part) → HoldsPart (from 0 8) p → blank p.place ≡ p
blanks_are p h = (has_from 0 8 p h).1

-- words that are 0 and clients that hold nothing keep the rule
pub begins : IsRuled (opening (replicate 1152 0) [] blanks)
begins = all_begin place_of Law (replicate 1152 0) blanks blank
    record {
      wide = length-replicate {A = ℕ} 1152 0;
      leases = λ i lt. subst (λ (n : ℕ). Shows n (λ c. mode_at (blank c) i)) (sym (get_or-replicate {A = ℕ} 1152 i 0 0 (omega arith))) (free_word (λ c. mode_at (blank c) i) (λ c. get_or-replicate 1024 i Free Free lt));
      steps = record { history = []; legal = tt; listed = λ c. refl; waiting = λ w ge lt. get_or-replicate {A = ℕ} 1152 w 0 0 lt };
    }
    (subst (AreApart place_of) blanks_from (apart_from 0 8))
    (subst (λ (ps : List Part). (p : Part) → HoldsPart ps p → blank p.place ≡ p) blanks_from blanks_are)
