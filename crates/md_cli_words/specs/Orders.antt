-- The order that a value of the program stands for: the texts behind its references.
use Rattle.md_cli_words.specs.declared.order.Order.{Order as Held}
use Rattle.md_cli_words.specs.Words.{Order}

abbrev pub asked : Held → Order
asked held = record {
  command = held.command;
  setting = held.setting.now;
  second = held.second.now;
  has_second = held.has_second;
  width = held.width;
  profile = held.profile.now;
  first_draw = held.first_draw;
  second_draw = held.second_draw;
  number = held.number;
  units = held.units;
}
