use Rattle.std.proofs.Common.{ap, ◌∙◌}
use Rattle.ph_host.specs.Options.{given, word_of}
use Rattle.ph_host.proofs.setups.given_in.Goals as goal

pub returns : goal.returns
returns c =
    c.given.ensures
    ∙ ap (λ word. given word c.options.result.now) c.word.ensures
    ∙ ap (given (word_of c.args.name)) c.options.ensures
