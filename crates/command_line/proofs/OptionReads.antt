-- What a getter of `clap` reads as the number of an option, by rows.
use Rattle.std.proofs.Common.{◌≡◌, ◌∙◌, ℕ, Option, Some, None, ap, refl, subst}
use Rattle.std.specs.Prelude.{Err, Ok, Result, option_map}
use Rattle.std.specs.Str.Parse.{ExplainsUnsignedError, HasUnsignedDigitsIfOk, ParsesUnsigned}
use Rattle.std.specs.declared.num.ParseIntError.{ParseIntError}
use Rattle.clap.specs.Words.{Text, TriesOne, one_of, one_text, rows_of}
use Rattle.clap.specs.declared.parser.matches.Found.{Found}
use Rattle.clap.proofs.WalkLemmas.{one_text-rows}
use Rattle.command_line.specs.Options.{HasNumber, IsNoNumber, IsNumber, number_in, number_of}

-- what reading a number of so many bits gives
abbrev pub Gives : ℕ → Text → Result ℕ ParseIntError → Type 0
Gives bits t x = ParsesUnsigned bits 10 t x × ExplainsUnsignedError 10 t x × HasUnsignedDigitsIfOk t x

-- how a try to read it ends
abbrev pub Tried : Type 0
Tried = Result (Option ℕ) ParseIntError

abbrev pub tried : Option ℕ → Tried
tried n = Ok n

abbrev pub failed : ParseIntError → Tried
failed e = Err e

module _ (bits : ℕ) (found : Found) (name : Text) where
  -- the number of the text of an option, and nothing where it has none
  pub number_read : (n : Option ℕ) → (one_text found name ≡ None → tried n ≡ tried None)
      → ((t : Text) → one_text found name ≡ Some t → TriesOne (Gives bits) t (Ok n))
      → (n ≡ number_in (rows_of found) name) × HasNumber bits (rows_of found) name
  number_read n none some = go (one_of name (rows_of found)) refl n (λ is. none (one_text-rows found name ∙ is)) (λ t is. some t (one_text-rows found name ∙ is))
    where
      go : (o : Option Text) → one_of name (rows_of found) ≡ o → (n : Option ℕ) → (one_of name (rows_of found) ≡ None → tried n ≡ tried None)
          → ((t : Text) → one_of name (rows_of found) ≡ Some t → TriesOne (Gives bits) t (Ok n))
          → (n ≡ option_map number_of (one_of name (rows_of found))) × ((t : Text) → one_of name (rows_of found) ≡ Some t → IsNumber bits t)
      go None is n none some =
          let nothing : n ≡ None = let same = none is in cc in
          (rw is nothing, λ t other. cc)
      go (Some t) is None none some = absurd (some t is)
      go (Some t) is (Some v) none some = (
        rw is (ap Some (some t is).0.1),
        λ u other. let same : t ≡ u = cc in subst (IsNumber bits) same (some t is).0.0,
      )

  -- and where that fails there is a text that is no number
  pub number_refused : (e : ParseIntError) → (one_text found name ≡ None → failed e ≡ tried None)
      → ((t : Text) → one_text found name ≡ Some t → TriesOne (Gives bits) t (Err e)) → IsNoNumber bits (rows_of found) name
  number_refused e none some = go (one_of name (rows_of found)) refl
    where
      go : (o : Option Text) → one_of name (rows_of found) ≡ o → IsNoNumber bits (rows_of found) name
      go None is = let no = none (one_text-rows found name ∙ is) in cc
      go (Some t) is = (t, is, (some t (one_text-rows found name ∙ is)).0)
