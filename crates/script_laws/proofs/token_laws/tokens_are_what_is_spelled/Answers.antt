use Rattle.script_laws.proofs.Readings.Tokens.Lines.{cuts_tokens, cuts_all_tokens}
use Rattle.script_laws.proofs.Readings.Tokens.Quotes.{undoes_doubling}
use Rattle.script_laws.proofs.token_laws.tokens_are_what_is_spelled.Goals as goal

pub returns-clause-cut : goal.returns-clause-cut
returns-clause-cut c = cuts_tokens

pub returns-clause-all : goal.returns-clause-all
returns-clause-all c = cuts_all_tokens

pub returns-clause-undoubled : goal.returns-clause-undoubled
returns-clause-undoubled c = undoes_doubling
