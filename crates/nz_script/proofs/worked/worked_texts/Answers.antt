use Rattle.nz_script.proofs.Examples.{comments_heard, strings_heard, quoted_heard, words_heard, groups_heard, limits_heard}
use Rattle.nz_script.proofs.worked.worked_texts.Goals as goal

pub returns : goal.returns
returns c = record { comments = comments_heard; strings = strings_heard; quoted_symbols = quoted_heard; words = words_heard; groups = groups_heard; limited = limits_heard }
