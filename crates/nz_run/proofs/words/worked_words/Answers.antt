-- What the words mean is computed.
use Rattle.std.proofs.Common.{◌≡◌, List, [], ◌∷◌, Some, None, codes, length, nat_eq, true, false, true≢false, refl, sym, ap, subst, ◌∙◌, lit<}
use Rattle.clap.specs.Words.{Text, subcommand_of}
use Rattle.clap.specs.Faults.{fault_of}
use Rattle.clap.proofs.OnLiterals.{clap_on_literals}
use Rattle.nz_run.specs.Words.{AreTaken, AreUnitsBy, nuz_command, work_of}
use Rattle.nz_run.specs.WorkedWords.{plain_words, words_with}
use Rattle.nz_run.proofs.words.worked_words.Goals as goal

plain_taken : AreTaken plain_words
unfolding clap_on_literals
plain_taken = refl

plain_text : work_of (subcommand_of nuz_command plain_words) ≡ None
unfolding clap_on_literals
plain_text = refl

work_taken : AreTaken (words_with (codes "7"))
unfolding clap_on_literals
work_taken = refl

work_text : work_of (subcommand_of nuz_command (words_with (codes "7"))) ≡ Some (codes "7")
unfolding clap_on_literals
work_text = refl

-- words with a fault aren't taken
not_taken : (words : List Text) → nat_eq (length (fault_of nuz_command words)) 0 ≡ false → AreTaken words → ⊥
not_taken words e taken = true≢false (sym (ap (λ ks. nat_eq (length ks) 0) taken) ∙ e)

no_command_fault : nat_eq (length (fault_of nuz_command (codes "nuz" ∷ []))) 0 ≡ false
unfolding clap_on_literals
no_command_fault = refl

no_number_fault : nat_eq (length (fault_of nuz_command (words_with (codes "x")))) 0 ≡ false
unfolding clap_on_literals
no_number_fault = refl

pub returns : goal.returns
returns c =
    record {
      meanings = record {
        plain = record { taken = plain_taken; units = subst (λ t. AreUnitsBy t 200000) (sym plain_text) (None, refl, refl) };
        work = record { taken = work_taken; units = subst (λ t. AreUnitsBy t 7) (sym work_text) (Some 7, (((lit< tt, (lit< tt, tt)), lit< tt), refl), refl) };
        no_command = not_taken (codes "nuz" ∷ []) no_command_fault;
        no_number = not_taken (words_with (codes "x")) no_number_fault;
      };
    }
