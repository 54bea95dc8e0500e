use Rattle.model.proofs.Shortcuts.{shortcuts}
use Rattle.model.proofs.shortcuts_leak.Goals as goal

pub returns : goal.returns
returns c = shortcuts
