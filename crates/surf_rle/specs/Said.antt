-- Headers and rules by what the reader found.
use Rattle.surf_rle.specs.declared.header.Header.{Header}
use Rattle.surf_rle.specs.declared.rule.RuleText.{RuleText}
use Rattle.surf_rle.specs.declared.torus.HeaderRule.{HeaderRule}
use Rattle.surf_rle.specs.Headers as headers
use Rattle.surf_rle.specs.RuleTexts as rules
use Rattle.surf_rle.specs.Tori as tori

abbrev pub header_by : Header → headers.Header
header_by h = record { width = h.width; height = h.height; rule = h.rule.now }

abbrev pub rule_by : RuleText → rules.RuleText
rule_by r = record { neighbours = r.neighbours; birth = r.birth.now; survival = r.survival.now }

abbrev pub header_rule_by : HeaderRule → tori.HeaderRule
header_rule_by r = record { rule = rule_by r.rule; torus = r.torus }
