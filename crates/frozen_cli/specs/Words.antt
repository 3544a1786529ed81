-- The form that a command of the code stands for, and what is wanted of a file.
use Rattle.path_text.specs.Views.{path_of}
use Rattle.frozen_cli.specs.declared.words.Command.{Command}
use Rattle.frozen_cli.specs.declared.words.Command.TheVariants as command
use Rattle.frozen_cli.specs.declared.wanted.Want.{Want}
use Rattle.frozen_cli.specs.declared.wanted.Want.TheVariants as want
use Rattle.frozen_cli.specs.Reply.{Form, freeze, show, thaw, check, layout, upgrade, print, demo}
use Rattle.frozen_cli.specs.Reply.{Wanted, part, whole, sizes}

abbrev pub form_in : Command → Form
form_in (command.Freeze def value) = freeze def.now value.now
form_in (command.Show showing def file path) = show showing def.now file.now path.now
form_in (command.Thaw def file) = thaw def.now file.now
form_in (command.Check def file) = check def.now file.now
form_in (command.Layout file) = layout file.now
form_in (command.Upgrade file) = upgrade file.now
form_in (command.Demo rows) = demo rows
form_in (command.Print def) = print def.now

abbrev pub wanted_in : Want → Wanted
wanted_in (want.Part showing path) = part showing (path_of path.now)
wanted_in want.Whole = whole
wanted_in want.Sizes = sizes
