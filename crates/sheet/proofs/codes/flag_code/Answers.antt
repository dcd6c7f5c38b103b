use Rattle.numbers.specs.Laws.Choice.{calls}
use Rattle.sheet.specs.Codes.{flag_code}
use Rattle.sheet.proofs.codes.flag_code.Goals as goal

pub returns-then-flag : goal.returns-then-flag
unfolding flag_code
returns-then-flag c = search calls

pub returns-else-flag : goal.returns-else-flag
unfolding flag_code
returns-else-flag c = search calls
