-- What an info of the code is.
use Rattle.nz_script.specs.commands.Command as commands
use Rattle.nz_reply.specs.declared.reply.Info.{Info}
use Rattle.nz_reply.specs.declared.reply.Info.TheVariants as info

abbrev pub info_of : Info → commands.Info
info_of info.Name = commands.name_info
info_of info.Version = commands.version_info
info_of info.Authors = commands.authors_info
info_of info.ErrorBehavior = commands.error_behavior_info
