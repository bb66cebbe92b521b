-- Which numbers a report can be about.
use Rattle.md_setting.specs.Setting.{GeneralSetting}
use Rattle.md_mech.specs.Accepted.{IsAccepted}
use Rattle.md_mech.specs.declared.mechanism.Mechanism.{Mechanism}
use Rattle.md_report.specs.Numbers.{AreNumbers}

pub accepted-numbers : (s : GeneralSetting) (m : Mechanism) → IsAccepted s m → AreNumbers s m
accepted-numbers s m accepted = record {
  den = accepted.mechanism.den;
  chance_count = accepted.mechanism.chance_count;
  pay_count = accepted.mechanism.pay_count;
  den_size = accepted.den_size;
  chance_size = accepted.chance_size;
  pay_size = accepted.pay_size;
}
