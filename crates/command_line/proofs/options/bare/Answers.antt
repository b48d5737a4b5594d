use Rattle.command_line.proofs.options.bare.Goals as goal

pub returns : goal.returns
returns c = record {
  app = rw (c.after_help.ensures, c.about.ensures) c.new.ensures.app;
  local = rw (c.after_help.ensures, c.about.ensures) c.new.ensures.local;
}
