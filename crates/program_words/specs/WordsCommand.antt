-- The command that the words are read by, as clap sees it.
use Rattle.std.specs.Prelude.{true, Some, codes}
use Rattle.clap.specs.declared.builder.action.ArgAction.TheVariants.{Set, SetTrue}
use Rattle.clap.specs.Words.{App, Rule, Text, new_app, new_rule, with_rule}

abbrev pub option_with_value : Text → Rule
option_with_value name = record (new_rule name) { long = Some name; action = Some Set }

abbrev pub flag : Text → Rule
flag name = record (new_rule name) { long = Some name; action = Some SetTrue }

-- no help, no version, and the first word is the first option's
abbrev pub plain_command : Text → App
plain_command name =
    record (new_app name) {
      top = record (new_app name).top {
        no_binary_name = true;
        disable_help_flag = true;
        disable_version_flag = true;
      };
    }

-- `sqla [--dialect D] [--echo] [--store FILE]`
abbrev pub words_command : App
words_command =
    with_rule (with_rule (with_rule (plain_command (codes "sqla")) (option_with_value (codes "dialect"))) (flag (codes "echo")))
    (option_with_value (codes "store"))
