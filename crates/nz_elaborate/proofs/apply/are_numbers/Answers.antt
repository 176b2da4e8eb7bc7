use Rattle.std.proofs.Common.{◌≡◌, ◌∙◌, rules}
use borrow.Author.Tests.{tests}
use Rattle.std.specs.List.{list_all}
use Rattle.std.proofs.lemmas.Iterator.{YieldsList-from_slice}
use Rattle.std.proofs.lemmas.Iterator.Search.{all_from_yields_List}
use Rattle.nz_term.specs.Constants.{sort_of}
use Rattle.nz_elaborate.specs.declared.typed.Typed.{Typed}
use Rattle.nz_elaborate.proofs.OperatorApplications.{is_number_sort, sorts_typed}
use Rattle.nz_elaborate.proofs.apply.are_numbers.Goals as goal

pub returns : goal.returns
returns c =
    record {
      numbers = λ ns ts typed.
          let each : c.all.result ≡ list_all (λ (x : Typed). is_number_sort (sort_of x.sort)) c.args.arguments.now =
          all_from_yields_List (λ (x : Typed). is_number_sort (sort_of x.sort)) _ _ c.all.result c.all.ensures.ran (YieldsList-from_slice c.args.arguments.now cc)
          (λ x b q k. search (rules, tests)) in
          each ∙ sorts_typed is_number_sort ns c.args.arguments.now ts typed;
    }
